-- How long the words of a configuration's fault are.
-- For `config_fault_text`, whose room they fit in. By cases.
use Rattle.std.proofs.Common.{◌≤◌, length, lit≤}
use Rattle.trdp_dataset.specs.declared.key.Key.{Key}
use Rattle.trdp_dataset.specs.declared.key.Key.TheVariants.{Node, Address, PdPort, MdPort}
use Rattle.trdp_dataset.specs.declared.key.Key.TheVariants.{OperatorPort, SpareControlPorts}
use Rattle.trdp_dataset.specs.declared.key.Key.TheVariants.{ControlAddress, Groups, Ttl, Slot}
use Rattle.trdp_dataset.specs.declared.key.Key.TheVariants.{Publishers, Subscriptions}
use Rattle.trdp_dataset.specs.declared.key.Key.TheVariants.{Requesters, Listeners, Callers}
use Rattle.trdp_dataset.specs.declared.key.Key.TheVariants.{Repliers, ControlPort, Dataset}
use Rattle.trdp_dataset.specs.declared.key.Key.TheVariants.{DatasetId, Elements, ElementType}
use Rattle.trdp_dataset.specs.declared.key.Key.TheVariants.{ElementSize}
use Rattle.trdp_dataset.specs.Keys.{key_text}

-- no key has more than 19 characters
pub key_short : (key : Key) → length (key_text key) ≤ 19
key_short Node = lit≤ tt
key_short Address = lit≤ tt
key_short PdPort = lit≤ tt
key_short MdPort = lit≤ tt
key_short OperatorPort = lit≤ tt
key_short SpareControlPorts = lit≤ tt
key_short ControlAddress = lit≤ tt
key_short Groups = lit≤ tt
key_short Ttl = lit≤ tt
key_short Slot = lit≤ tt
key_short Publishers = lit≤ tt
key_short Subscriptions = lit≤ tt
key_short Requesters = lit≤ tt
key_short Listeners = lit≤ tt
key_short Callers = lit≤ tt
key_short Repliers = lit≤ tt
key_short ControlPort = lit≤ tt
key_short Dataset = lit≤ tt
key_short DatasetId = lit≤ tt
key_short Elements = lit≤ tt
key_short ElementType = lit≤ tt
key_short ElementSize = lit≤ tt
