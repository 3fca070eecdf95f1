-- The headers that objects and calls send fit, where their own fields do.
-- For `SendingLemmas`, which read back what was written under such a header.
-- Field by field: each is a field of the object's terms, a constant or a counter below its limit.
use Rattle.std.proofs.Common.{ℕ, ◌<◌, ◌^◌, ℤ, pos, arith}
use Rattle.std.specs.Prelude.{FitsSigned}
use Rattle.std.specs.Int.{w32}
use Rattle.trdp_head.specs.declared.pd.PdKind.{PdKind}
use Rattle.trdp_head.specs.declared.pd.PdKind.TheVariants as data_kind
use Rattle.trdp_head.specs.declared.md.MdKind.{MdKind}
use Rattle.trdp_head.specs.declared.md.MdKind.TheVariants as message
use Rattle.trdp_head.specs.PdKinds.{pd_code_of}
use Rattle.trdp_head.specs.PdHeads.{IsPdHead}
use Rattle.trdp_head.specs.MdKinds.{md_code_of}
use Rattle.trdp_head.specs.MdHeads.{IsMdHead}
use Rattle.trdp_pd.specs.Publishers.{PublisherState, head_as}
use Rattle.trdp_pd.specs.Requesters.{RequesterState, pull_head}
use Rattle.trdp_md.specs.declared.terms.NotifyTerms.{NotifyTerms}
use Rattle.trdp_md.specs.declared.terms.CallerTerms.{CallerTerms}
use Rattle.trdp_md.specs.declared.replier.Replier.{Replier as AnyReplier}
use Rattle.trdp_md.specs.Callers.{request_of, confirm_of}
use Rattle.trdp_md.specs.Repliers.{answer_with}
use Rattle.trdp_md.specs.Notifications.{notification_of}
use Rattle.trdp_net.proofs.TypedMoveLemmas.{IsPublisher, IsRequester, IsReplier}
use Rattle.trdp_net.specs.Typed.{IsNotifyTerms, IsCallerTerms}

code_within : (kind : PdKind) → pd_code_of kind < 2 ^ 16
code_within data_kind.Data = omega arith
code_within data_kind.PullReply = omega arith
code_within data_kind.PullRequest = omega arith
code_within data_kind.Error = omega arith

md_code_within : (kind : MdKind) → md_code_of kind < 2 ^ 16
md_code_within message.Notify = omega arith
md_code_within message.Request = omega arith
md_code_within message.Reply = omega arith
md_code_within message.Query = omega arith
md_code_within message.Confirm = omega arith
md_code_within message.Error = omega arith

-- the header of a publisher's telegram fits its fields
pub publisher_head : (kind : PdKind) (p : PublisherState) → IsPublisher p
    → IsPdHead (head_as kind p)
publisher_head kind p fits = record {
  prefix = record {
    counter = fits.counter;
    code = code_within kind;
    com_id = fits.com_id;
    etb = fits.topo.etb;
    op_trn = fits.topo.op_trn;
  };
  reply_com_id = omega arith;
  reply_ip = omega arith;
}

-- the same of a pull request
pub requester_head : (r : RequesterState) → IsRequester r → IsPdHead (pull_head r)
requester_head r fits = record {
  prefix = record {
    counter = fits.counter;
    code = code_within data_kind.PullRequest;
    com_id = fits.com_id;
    etb = fits.topo.etb;
    op_trn = fits.topo.op_trn;
  };
  reply_com_id = fits.reply_com_id;
  reply_ip = fits.reply_ip;
}

zero_fits : FitsSigned w32 (pos 0)
zero_fits = omega arith

-- the same of a request
pub request_head : (terms : CallerTerms) (counter : ℕ) → IsCallerTerms terms → counter < 2 ^ 32
    → IsMdHead (request_of terms counter)
unfolding request_of
request_head terms counter fits small = record {
  prefix = record {
    counter = small;
    code = md_code_within message.Request;
    com_id = fits.com_id;
    etb = fits.topo.etb;
    op_trn = fits.topo.op_trn;
  };
  status = zero_fits;
  session = fits.session;
  timeout = fits.timeout;
  source_uri = fits.source_uri;
  dest_uri = fits.dest_uri;
}

-- the same of a confirmation
pub confirm_head : (terms : CallerTerms) (status : ℤ) → IsCallerTerms terms
    → FitsSigned w32 status → IsMdHead (confirm_of terms status)
unfolding confirm_of
confirm_head terms status fits status_fits = record {
  prefix = record {
    counter = omega arith;
    code = md_code_within message.Confirm;
    com_id = fits.com_id;
    etb = fits.topo.etb;
    op_trn = fits.topo.op_trn;
  };
  status = status_fits;
  session = fits.session;
  timeout = omega arith;
  source_uri = fits.source_uri;
  dest_uri = fits.dest_uri;
}

-- the same of a reply, a query or an error
pub answer_head : (r : AnyReplier) (kind : MdKind) (com_id : ℕ) (status : ℤ) (timeout : ℕ)
    → IsReplier r → com_id < 2 ^ 32 → FitsSigned w32 status → timeout < 2 ^ 32
    → IsMdHead (answer_with r kind com_id status timeout)
unfolding answer_with
answer_head r kind com_id status timeout fits com_id_fits status_fits timeout_fits = record {
  prefix = record {
    counter = omega arith;
    code = md_code_within kind;
    com_id = com_id_fits;
    etb = fits.topo.etb;
    op_trn = fits.topo.op_trn;
  };
  status = status_fits;
  session = fits.session;
  timeout = timeout_fits;
  source_uri = fits.dest_uri;
  dest_uri = fits.source_uri;
}

-- the same of a notification
pub notification_head : (terms : NotifyTerms) → IsNotifyTerms terms
    → IsMdHead (notification_of terms)
unfolding notification_of
notification_head terms fits = record {
  prefix = record {
    counter = omega arith;
    code = md_code_within message.Notify;
    com_id = fits.com_id;
    etb = fits.topo.etb;
    op_trn = fits.topo.op_trn;
  };
  status = zero_fits;
  session = omega arith;
  timeout = omega arith;
  source_uri = fits.source_uri;
  dest_uri = fits.dest_uri;
}
