-- What a take heard at a path, and what it means where it heard nothing.
use Rattle.std.specs.Prelude.{◌≡◌, ℕ, ◌||◌, Bool, true, false, List, Option, Some, None, Result}
use Rattle.std.specs.Prelude.{Ok, Err, is_some}
use Rattle.std.specs.List.{list_any}
use Rattle.trdp_lines.specs.declared.connections.Accepted.{Accepted}
use Rattle.trdp_lines.specs.declared.connections.Accepted.TheVariants.{Came, Nothing, Failed}
use Rattle.trdp_lines.specs.declared.path_fault.AcceptFault.{AcceptFault}
use Rattle.trdp_lines.specs.declared.rule.Rule.{Rule}
use Rattle.trdp_lines.specs.declared.rule.Rule.TheVariants.{Application, Operators}
use Rattle.trdp_lines.specs.Connections.{ReadAnswer, SomeBytes, NoBytes, NoMore}
use Rattle.trdp_lines.specs.Connections.{ConnectionCall, Accepts, Reads, Writes, Closes}
use Rattle.trdp_base.specs.Reported.{TellsMore}

-- the next connection was there
abbrev pub was_accepted : Accepted → Bool
was_accepted Came = true
was_accepted Nothing = false
was_accepted Failed = false

-- a read answered with bytes, or that no more come
abbrev pub is_something : ReadAnswer → Bool
is_something (SomeBytes bytes) = true
is_something NoBytes = false
is_something NoMore = true

-- a call brought something: a connection, bytes of one, or its end
abbrev pub brings : ConnectionCall → Bool
brings (Accepts number answer) = was_accepted answer
brings (Reads number reading) = is_something reading.arrived
brings (Writes number writing) = false
brings (Closes number) = false

-- among these calls one brought something
abbrev pub has_brought : List ConnectionCall → Bool
has_brought calls = list_any brings calls

-- a take handed in something
abbrev pub has_found : Result (Option (ℕ × ℕ)) AcceptFault → Bool
has_found (Ok None) = false
has_found (Ok (Some found)) = true
has_found (Err fault) = false

-- something is heard then exactly if it was before, or one of the calls in between brought it
pub record Hears (calls calls_then : Option (List ConnectionCall)) (heard heard_then : Bool)
    : Type 0 where
  pub more : List ConnectionCall
  pub told : TellsMore calls calls_then more
  pub hears : heard_then ≡ heard || has_brought more

-- Nothing was heard before these calls, none waited, and nothing was handed in; and of the calls
-- themselves none brought anything.
pub record IsQuiet (calls calls_then : Option (List ConnectionCall)) (heard : Bool)
    (waits : Bool) (found : Bool) : Type 0 where
  pub more : List ConnectionCall
  pub told : TellsMore calls calls_then more
  pub unheard : heard ≡ false
  pub unwaited : waits ≡ false
  pub unfound : found ≡ false
  pub nothing : has_brought more ≡ false

-- one that waits is decided: by these calls nothing came, and none waits then; or something came
pub record Decides (calls calls_then : Option (List ConnectionCall)) (waiting_then : Option ℕ)
    : Type 0 where
  pub more : List ConnectionCall
  pub told : TellsMore calls calls_then more
  pub decided : has_brought more ≡ false → waiting_then ≡ None

-- one waits for the seat of an application; none waits at the operator's path
abbrev pub waits_at : Rule → Option ℕ → Bool
waits_at Application waiting = is_some waiting
waits_at Operators waiting = false
