-- Notifications.
use Rattle.std.specs.Prelude.{pos}
use Rattle.trdp_head.specs.declared.md.MdHead.{MdHead}
use Rattle.trdp_head.specs.declared.md.MdKind.TheVariants.{Notify}
use Rattle.trdp_md.specs.declared.terms.NotifyTerms.{NotifyTerms}

-- the header of a notification: its comId, topology counters and URIs, and 0 in all that belongs
-- to a session
-- rule: notification.fields
unfoldable pub notification_of : NotifyTerms → MdHead
notification_of terms = record {
  counter = 0;
  kind = Notify;
  com_id = terms.com_id;
  topo = terms.topo;
  status = pos 0;
  session = record { 0 = 0 };
  timeout = 0;
  source_uri = terms.source_uri;
  dest_uri = terms.dest_uri;
}
