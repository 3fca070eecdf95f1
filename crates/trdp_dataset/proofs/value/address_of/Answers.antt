use Rattle.std.proofs.Common.{Ok, Err, refl, ap, ◌∙◌}
use Rattle.trdp_dataset.specs.Values.{address_of}
use Rattle.trdp_dataset.proofs.AddressLemmas.{address_read, address_unread}
use Rattle.trdp_dataset.proofs.value.address_of.Goals as goal

pub returns-in-Ok : goal.returns-in-Ok
returns-in-Ok c = record {
  value = address_read _ (Ok c.in-Ok.ip) c.in-Ok.ip
      refl (let fits = rw c.in-Ok.is at c.read_ip.type_inv in fits.1.1.1.1.0.1.1.0.1)
      c.in-Ok.ensures.value c.in-Ok.ensures.found ∙ ap address_of c.as_bytes.ensures.value;
}

pub returns-in-Err : goal.returns-in-Err
returns-in-Err c = record {
  value = address_unread _ (Err c.in-Err.field-0)
      c.in-Err.field-0 refl c.in-Err.ensures.found ∙ ap address_of c.as_bytes.ensures.value;
}
