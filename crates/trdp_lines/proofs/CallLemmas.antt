-- What calls add to what the connections at a path say.
-- For `ControlPath`.
-- By: what is known of a list of calls is put together from what is known of its parts.
use Rattle.std.proofs.Common.{◌≡◌, ◌==◌, ◌||◌, ◌&&◌, ◌++◌, ℕ, ◌≤◌, List, [], ◌∷◌, map, not}
use Rattle.std.proofs.Common.{Bool, true, false, if◌then◌else◌, refl, ap, sym, ◌∙◌, append_assoc}
use Rattle.std.specs.Prelude.{All}
use Rattle.std.proofs.lemmas.Bool.{eq-eqb}
use Rattle.std.proofs.lemmas.List.{append-nil}
use Rattle.std.proofs.lemmas.List.Concat.{flat_map-append}
use Rattle.std.proofs.lemmas.List.Elements.{All-head, All-tail, All-weaker}
use Rattle.std.proofs.lemmas.List.Folds.{list_any-append}
use Rattle.trdp_lines.specs.declared.connections.Accepted.{Accepted}
use Rattle.trdp_lines.specs.declared.connections.Accepted.TheVariants.{Nothing, Failed}
use Rattle.trdp_lines.specs.Connections.{ConnectionCall, Accepts, Reads, Writes, Closes, Reading}
use Rattle.trdp_lines.specs.Connections.{Writing, reading_bytes}
use Rattle.trdp_lines.specs.Lines.{has_line, lines_in}
use Rattle.trdp_lines.specs.Said.{Said, accepted_by, connections_in, bytes_read, bytes_from}
use Rattle.trdp_lines.specs.Said.{reads_end, connection_ended, is_end, is_too_long, said_by, end_if}
use Rattle.trdp_lines.specs.Said.{application_says, applications_say, lives, said_in_turn}

-- what a connection says whose bytes are these, and that has ended or not
abbrev pub says_of : ℕ → List ℕ → Bool → List Said
says_of n bytes ended =
    said_by n (lines_in bytes) ++ end_if n (ended || is_too_long bytes) (has_line bytes)

-- a test is what it is beside one that fails
pub or_false : (b : Bool) → (b || false) ≡ b
or_false true = refl
or_false false = refl

-- a connection from which the same came says the same
pub says_alike : (calls calls_then : List ConnectionCall) (n : ℕ)
    → bytes_from n calls_then ≡ bytes_from n calls
    → connection_ended n calls_then ≡ connection_ended n calls
    → application_says calls_then n ≡ application_says calls n
says_alike calls calls_then n bytes ended =
    ap (λ (b : List ℕ). says_of n b (connection_ended n calls_then)) bytes
    ∙ ap (λ (e : Bool). says_of n (bytes_from n calls) e) ended

-- a connection from which nothing came says nothing
pub unread_says : (calls : List ConnectionCall) (n : ℕ) → bytes_from n calls ≡ []
    → connection_ended n calls ≡ false → application_says calls n ≡ []
unread_says calls n bytes ended =
    ap (λ (b : List ℕ). says_of n b (connection_ended n calls)) bytes
    ∙ ap (λ (e : Bool). says_of n [] e) ended

-- a connection lives by its bytes, and by whether it has ended
abbrev pub lives_by : List ℕ → Bool → Bool
lives_by bytes ended = has_line bytes && not (ended || is_too_long bytes)

-- a connection from which the same came lives as it did
pub lives_alike : (calls calls_then : List ConnectionCall) (n : ℕ)
    → bytes_from n calls_then ≡ bytes_from n calls
    → connection_ended n calls_then ≡ connection_ended n calls
    → lives calls_then n ≡ lives calls n
lives_alike calls calls_then n bytes ended =
    ap (λ (b : List ℕ). lives_by b (connection_ended n calls_then)) bytes
    ∙ ap (λ (e : Bool). lives_by (bytes_from n calls) e) ended

-- a connection from which nothing came is no application
pub unread_past : (calls : List ConnectionCall) (n : ℕ) → bytes_from n calls ≡ []
    → lives calls n ≡ false
unread_past calls n bytes = ap (λ (b : List ℕ). lives_by b (connection_ended n calls)) bytes

-- from a connection the same came
pub record IsAlike (calls calls_then : List ConnectionCall) (n : ℕ) : Type 0 where
  pub bytes : bytes_from n calls_then ≡ bytes_from n calls
  pub ended : connection_ended n calls_then ≡ connection_ended n calls

-- where the same came from each of these, all of them say the same
pub same_in_turn : (calls calls_then : List ConnectionCall) (P : ℕ → Type 0)
    → ((n : ℕ) → P n → IsAlike calls calls_then n) → (ns : List ℕ) → All P ns
    → said_in_turn calls_then ns ≡ said_in_turn calls ns
same_in_turn calls calls_then P same [] all = refl
same_in_turn calls calls_then P same (n ∷ ns) all =
    let alike = same n (All-head P n ns all) in
    let behind = said_in_turn calls_then ns in
    ap (λ (l : List Said). l ++ (if lives calls_then n then [] else behind))
    (says_alike calls calls_then n alike.bytes alike.ended)
    ∙ ap (λ (b : Bool). application_says calls n ++ (if b then [] else behind))
    (lives_alike calls calls_then n alike.bytes alike.ended)
    ∙ ap (λ (l : List Said). application_says calls n ++ (if lives calls n then [] else l))
    (same_in_turn calls calls_then P same ns (All-tail P n ns all))

-- where nothing came from each of these, all of them say nothing
pub nothing_in_turn : (calls : List ConnectionCall) (bound : ℕ)
    → ((n : ℕ) → bound ≤ n → (bytes_from n calls ≡ []) × (connection_ended n calls ≡ false))
    → (ns : List ℕ) → All (λ n. bound ≤ n) ns → said_in_turn calls ns ≡ []
nothing_in_turn calls bound unread [] all = refl
nothing_in_turn calls bound unread (n ∷ ns) all =
    let none = unread n (All-head (λ n. bound ≤ n) n ns all) in
    let behind = said_in_turn calls ns in
    ap (λ (l : List Said). l ++ (if lives calls n then [] else behind))
    (unread_says calls n none.0 none.1)
    ∙ ap (λ (b : Bool). if b then [] else behind) (unread_past calls n none.0)
    ∙ nothing_in_turn calls bound unread ns (All-tail (λ n. bound ≤ n) n ns all)

-- after connections that don't live the others say what they say
pub past_in_turn : (calls : List ConnectionCall) (front ns : List ℕ)
    → All (λ n. lives calls n ≡ false) front
    → said_in_turn calls (front ++ ns) ≡ said_in_turn calls front ++ said_in_turn calls ns
past_in_turn calls [] ns past = refl
past_in_turn calls (n ∷ front) ns past =
    let says = application_says calls n in
    let none = All-head (λ n. lives calls n ≡ false) n front past in
    ap (λ (b : Bool). says ++ (if b then [] else said_in_turn calls (front ++ ns))) none
    ∙ ap (λ (l : List Said). says ++ l)
    (past_in_turn calls front ns (All-tail (λ n. lives calls n ≡ false) n front past))
    ∙ sym (append_assoc says (said_in_turn calls front) (said_in_turn calls ns))
    ∙ ap (λ (b : Bool). (says ++ (if b then [] else said_in_turn calls front))
    ++ said_in_turn calls ns) (sym none)

-- connections that say nothing add nothing after others
pub silent_in_turn : (calls : List ConnectionCall) (ns silent : List ℕ)
    → said_in_turn calls silent ≡ []
    → said_in_turn calls (ns ++ silent) ≡ said_in_turn calls ns
silent_in_turn calls [] silent none = none
silent_in_turn calls (n ∷ ns) silent none =
    ap (λ (l : List Said). application_says calls n ++ (if lives calls n then [] else l))
    (silent_in_turn calls ns silent none)

-- by these calls nothing came from any connection
pub record AreUnheard (more : List ConnectionCall) : Type 0 where
  pub bytes : (n : ℕ) → bytes_from n more ≡ []
  pub ended : (n : ℕ) → connection_ended n more ≡ false

-- no connection came by them either
pub record AreQuiet (more : List ConnectionCall) : Type 0 where
  pub unheard : AreUnheard more
  pub none_came : connections_in more ≡ []

-- by writes nothing came
writes_bytes : (n to : ℕ) (writings : List Writing) → bytes_from n (map (Writes to) writings) ≡ []
writes_bytes n to [] = refl
writes_bytes n to (writing ∷ writings) = writes_bytes n to writings

-- by writes nothing ended
writes_end : (n to : ℕ) (writings : List Writing)
    → connection_ended n (map (Writes to) writings) ≡ false
writes_end n to [] = refl
writes_end n to (writing ∷ writings) = writes_end n to writings

-- by writes no connection came
writes_come : (to : ℕ) (writings : List Writing) → connections_in (map (Writes to) writings) ≡ []
writes_come to [] = refl
writes_come to (writing ∷ writings) = writes_come to writings

-- so writes are quiet
pub writes_quiet : (to : ℕ) (writings : List Writing) → AreQuiet (map (Writes to) writings)
writes_quiet to writings = record {
  unheard = record {
    bytes = λ n. writes_bytes n to writings;
    ended = λ n. writes_end n to writings;
  };
  none_came = writes_come to writings;
}

-- the end of a connection that the path made is quiet
pub close_quiet : (to : ℕ) → AreQuiet (Closes to ∷ [])
close_quiet to = record {
  unheard = record { bytes = λ n. refl; ended = λ n. refl };
  none_came = refl;
}

-- so is the refusal of one
pub refuse_quiet : (to : ℕ) (writing : Writing) → AreQuiet (Writes to writing ∷ Closes to ∷ [])
refuse_quiet to writing = record {
  unheard = record { bytes = λ n. refl; ended = λ n. refl };
  none_came = refl;
}

-- where the next connection was asked for nothing was read
pub accept_unheard : (n : ℕ) (answer : Accepted) → AreUnheard (Accepts n answer ∷ [])
accept_unheard n answer = record { bytes = λ m. refl; ended = λ m. refl }

-- where none was there it is quiet
pub nothing_quiet : (n : ℕ) → AreQuiet (Accepts n Nothing ∷ [])
nothing_quiet n = record { unheard = accept_unheard n Nothing; none_came = refl }

-- where the system refused it, too
pub failed_quiet : (n : ℕ) → AreQuiet (Accepts n Failed ∷ [])
failed_quiet n = record { unheard = accept_unheard n Failed; none_came = refl }

-- all bytes are those that had come
pub unheard_bytes : (calls more : List ConnectionCall) → AreUnheard more → (n : ℕ)
    → bytes_from n (calls ++ more) ≡ bytes_from n calls
unheard_bytes calls more unheard n = flat_map-append (bytes_read n) calls more
    ∙ ap (λ (l : List ℕ). bytes_from n calls ++ l) (unheard.bytes n)
    ∙ append-nil (bytes_from n calls)

-- those that had ended have
pub unheard_end : (calls more : List ConnectionCall) → AreUnheard more → (n : ℕ)
    → connection_ended n (calls ++ more) ≡ connection_ended n calls
unheard_end calls more unheard n = list_any-append (reads_end n) calls more
    ∙ ap (λ (b : Bool). connection_ended n calls || b) (unheard.ended n)
    ∙ or_false (connection_ended n calls)

-- from each connection the same came
pub unheard_alike : (calls more : List ConnectionCall) → AreUnheard more → (n : ℕ)
    → IsAlike calls (calls ++ more) n
unheard_alike calls more unheard n = record {
  bytes = unheard_bytes calls more unheard n;
  ended = unheard_end calls more unheard n;
}

-- connections that didn't live don't live by such calls either
pub unheard_past : (calls more : List ConnectionCall) → AreUnheard more → (ns : List ℕ)
    → All (λ n. lives calls n ≡ false) ns → All (λ n. lives (calls ++ more) n ≡ false) ns
unheard_past calls more unheard ns past = All-weaker (λ n. lives calls n ≡ false)
    (λ n. lives (calls ++ more) n ≡ false) (λ n none. lives_alike calls (calls ++ more) n
    (unheard_bytes calls more unheard n) (unheard_end calls more unheard n) ∙ none) ns past

-- the connections that came are those of both parts
pub come_by : (calls more : List ConnectionCall)
    → connections_in (calls ++ more) ≡ connections_in calls ++ connections_in more
come_by calls more = flat_map-append accepted_by calls more

-- after quiet calls they are those that had come
pub quiet_come : (calls more : List ConnectionCall) → AreQuiet more
    → connections_in (calls ++ more) ≡ connections_in calls
quiet_come calls more quiet = come_by calls more
    ∙ ap (λ (l : List ℕ). connections_in calls ++ l) quiet.none_came
    ∙ append-nil (connections_in calls)

-- where nothing came, and the connections that came say nothing, all say what they said
pub unheard_say : (calls more : List ConnectionCall) → AreUnheard more
    → said_in_turn calls (connections_in more) ≡ []
    → applications_say (calls ++ more) ≡ applications_say calls
unheard_say calls more unheard none =
    same_in_turn calls (calls ++ more) (λ n. Unit {0})
    (λ n any. unheard_alike calls more unheard n) (connections_in (calls ++ more))
    (λ k d within. tt)
    ∙ ap (said_in_turn calls) (come_by calls more)
    ∙ silent_in_turn calls (connections_in calls) (connections_in more) none

-- after quiet calls all say what they said
pub quiet_say : (calls more : List ConnectionCall) → AreQuiet more
    → applications_say (calls ++ more) ≡ applications_say calls
quiet_say calls more quiet =
    unheard_say calls more quiet.unheard (ap (said_in_turn calls) quiet.none_came)

-- a read from a connection adds its bytes, and its end
pub read_bytes : (calls : List ConnectionCall) (n : ℕ) (reading : Reading)
    → bytes_from n (calls ++ Reads n reading ∷ []) ≡ bytes_from n calls ++ reading_bytes reading
read_bytes calls n reading =
    let here : bytes_from n (Reads n reading ∷ []) ≡ reading_bytes reading =
    rw (eq-eqb n n refl) (append-nil (reading_bytes reading)) in
    flat_map-append (bytes_read n) calls (Reads n reading ∷ [])
    ∙ ap (λ (l : List ℕ). bytes_from n calls ++ l) here

-- and by its answer the connection has ended or not
pub read_end : (calls : List ConnectionCall) (n : ℕ) (reading : Reading)
    → connection_ended n (calls ++ Reads n reading ∷ [])
    ≡ (connection_ended n calls || is_end reading.arrived)
read_end calls n reading =
    let here : connection_ended n (Reads n reading ∷ []) ≡ is_end reading.arrived =
    rw (eq-eqb n n refl) (or_false (is_end reading.arrived)) in
    list_any-append (reads_end n) calls (Reads n reading ∷ [])
    ∙ ap (λ (b : Bool). connection_ended n calls || b) here

-- and nothing to what another said
pub read_bytes_other : (calls : List ConnectionCall) (n m : ℕ) (reading : Reading) → n == m ≡ false
    → bytes_from m (calls ++ Reads n reading ∷ []) ≡ bytes_from m calls
read_bytes_other calls n m reading other =
    let here : bytes_from m (Reads n reading ∷ []) ≡ [] = rw other refl in
    flat_map-append (bytes_read m) calls (Reads n reading ∷ [])
    ∙ ap (λ (l : List ℕ). bytes_from m calls ++ l) here ∙ append-nil (bytes_from m calls)

-- nor did another end by it
pub read_end_other : (calls : List ConnectionCall) (n m : ℕ) (reading : Reading) → n == m ≡ false
    → connection_ended m (calls ++ Reads n reading ∷ []) ≡ connection_ended m calls
read_end_other calls n m reading other =
    let here : connection_ended m (Reads n reading ∷ []) ≡ false = rw other refl in
    list_any-append (reads_end m) calls (Reads n reading ∷ [])
    ∙ ap (λ (b : Bool). connection_ended m calls || b) here ∙ or_false (connection_ended m calls)

-- by a read no connection came
pub read_come : (calls : List ConnectionCall) (n : ℕ) (reading : Reading)
    → connections_in (calls ++ Reads n reading ∷ []) ≡ connections_in calls
read_come calls n reading =
    come_by calls (Reads n reading ∷ []) ∙ append-nil (connections_in calls)
