-- Steps whose numbers, URIs and identifiers are ones that their fields hold.
use Rattle.std.specs.Prelude.{◌<◌, ◌^◌, List, FitsSigned}
use Rattle.std.specs.Int.{w32}
use Rattle.trdp_base.specs.declared.topo.Topo.{Topo}
use Rattle.trdp_base.specs.Uris.{IsUri}
use Rattle.trdp_pd.specs.declared.terms.PublisherTerms.{PublisherTerms}
use Rattle.trdp_pd.specs.declared.terms.RequesterTerms.{RequesterTerms}
use Rattle.trdp_md.specs.declared.terms.NotifyTerms.{NotifyTerms}
use Rattle.trdp_md.specs.declared.terms.CallerTerms.{CallerTerms}
use Rattle.trdp_model.specs.Events.{CallModel, PublishCall, OpenPullCall, NotifyCall, RequestCall}
use Rattle.trdp_model.specs.Events.{ReplyCall, QueryCall, ReplyErrorCall, ConfirmCall}
use Rattle.trdp_net.specs.Networks.{Step, CallAt}
use Rattle.trdp_net.specs.Provenance.{Each}

-- topology counters of 32 bits
pub record IsTopo (topo : Topo) : Type 0 where
  pub etb : topo.etb < 2 ^ 32
  pub op_trn : topo.op_trn < 2 ^ 32

-- what a publisher sends of its terms
pub record IsPublisherTerms (terms : PublisherTerms) : Type 0 where
  pub com_id : terms.com_id < 2 ^ 32
  pub topo : IsTopo terms.topo

-- what a pull requester sends of its terms
pub record IsRequesterTerms (terms : RequesterTerms) : Type 0 where
  pub com_id : terms.com_id < 2 ^ 32
  pub topo : IsTopo terms.topo
  pub reply_com_id : terms.reply_com_id < 2 ^ 32
  pub reply_ip : terms.reply_ip.0 < 2 ^ 32

-- what a notification sends of its terms
pub record IsNotifyTerms (terms : NotifyTerms) : Type 0 where
  pub com_id : terms.com_id < 2 ^ 32
  pub topo : IsTopo terms.topo
  pub source_uri : IsUri terms.source_uri
  pub dest_uri : IsUri terms.dest_uri

-- what a caller sends of its terms
pub record IsCallerTerms (terms : CallerTerms) : Type 0 where
  pub com_id : terms.com_id < 2 ^ 32
  pub topo : IsTopo terms.topo
  pub session : terms.session.0 < 2 ^ 128
  pub timeout : terms.timeout < 2 ^ 32
  pub source_uri : IsUri terms.source_uri
  pub dest_uri : IsUri terms.dest_uri

-- each number, URI and identifier that the call may send, or that an object which it opens may
-- send, is one that its field holds: in a running node its type says so
abbrev pub IsTypedCall : CallModel → Type 0
IsTypedCall (PublishCall terms) = IsPublisherTerms terms
IsTypedCall (OpenPullCall terms) = IsRequesterTerms terms
IsTypedCall (NotifyCall terms payload) = IsNotifyTerms terms
IsTypedCall (RequestCall terms payload) = IsCallerTerms terms
IsTypedCall (ReplyCall handle com_id status payload) = (com_id < 2 ^ 32) × FitsSigned w32 status
IsTypedCall (QueryCall handle com_id status timeout payload) =
    (com_id < 2 ^ 32) × FitsSigned w32 status × (timeout < 2 ^ 32)
IsTypedCall (ReplyErrorCall handle com_id status) = (com_id < 2 ^ 32) × FitsSigned w32 status
IsTypedCall (ConfirmCall handle place status) = FitsSigned w32 status
IsTypedCall call = Unit {0}

-- only a call brings numbers to send
abbrev pub IsTypedStep : Step → Type 0
IsTypedStep (CallAt node slot call) = IsTypedCall call
IsTypedStep step = Unit {0}

-- the same of each step
abbrev pub AreTypedSteps : List Step → Type 0
AreTypedSteps steps = Each IsTypedStep steps
