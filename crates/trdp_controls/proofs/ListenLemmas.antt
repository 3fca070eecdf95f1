-- The files of paths, at which a process listens one after another.
-- For the functions of `opening`.
-- By: those that were granted first, and then the others, up to the one that was refused.
use Rattle.std.proofs.Common.{◌≡◌, zero, suc, ℕ, List, [], ◌∷◌, ◌++◌, Option, Some, None}
use Rattle.std.proofs.Common.{◌+◌, ◌<◌, arith, refl, sym, ◌∙◌, ap, append_assoc, append-nil}
use Rattle.std.proofs.Common.{subst, map, drop, length}
use Rattle.std.proofs.lemmas.List.{map-append}
use Rattle.std.proofs.lemmas.Option.{slice_get-get_or}
use Rattle.std.specs.Prelude.{Result, Ok, Err, slice_get, unwrap_or}
use Rattle.std.specs.List.{flat_map}
use Rattle.std.specs.Result.{IsErrAnd}
use Rattle.trdp_wire.specs.Sockets.{fault_of_result}
use Rattle.trdp_base.specs.Reported.{TellsMore}
use Rattle.trdp_base.proofs.ReportedLemmas.{adds_none, adds_both}
use Rattle.trdp_wire.proofs.ControlPortLemmas.{number_next}
use Rattle.trdp_controls.specs.Folders.{Listening, ListensAt, granted, file_unless_0, file_of}
use Rattle.trdp_controls.specs.Folders.{refused_listening, StopsListening, ListensInTurn}
use Rattle.trdp_controls.specs.declared.listen_fault.ListenFault.{ListenFault}
use Rattle.trdp_controls.specs.declared.listen_fault.ListenFault.TheVariants.{OutOfMemory}

-- a process listens at these, and then at those
pub listened_both : (front files : List ℕ) (a b c : Option (List Listening))
    → TellsMore a b (map granted front) → TellsMore b c (map granted files)
    → TellsMore a c (map granted (front ++ files))
listened_both front files a b c first then_these =
    subst (λ (l : List Listening). TellsMore a c l) (sym (map-append granted front files))
    (adds_both a b c (map granted front) (map granted files) first then_these)

-- a process listens at these files, of which more come
pub record Listened (files : List ℕ) (a b : Option (List Listening)) (rest : List ℕ)
    : Type 0 where
  pub done : List ℕ
  pub told : TellsMore a b (map granted done)
  pub whole : done ++ rest ≡ files

pub listened_none : (files : List ℕ) (a : Option (List Listening)) → Listened files a a files
listened_none files a = record { done = []; told = adds_none a; whole = refl }

-- at these too
pub listened_more : (files more rest : List ℕ) (a b c : Option (List Listening))
    → Listened files a b (more ++ rest) → TellsMore b c (map granted more)
    → Listened files a c rest
listened_more files more rest a b c so_far then_these = record {
  done = so_far.done ++ more;
  told = listened_both so_far.done more a b c so_far.told then_these;
  whole = append_assoc so_far.done more rest ∙ so_far.whole;
}

-- or it ended with a fault
pub listened_stops : (files more rest : List ℕ) (fault : ListenFault)
    (a b c : Option (List Listening))
    → Listened files a b (more ++ rest) → StopsListening more fault b c
    → StopsListening files fault a c
listened_stops files more rest fault a b c so_far stop =
    let done = so_far.done in
    let front = stop.front in
    let last = file_of stop.last in
    let refusal = refused_listening stop.last fault in
    let told = adds_both a b c (map granted done) (map granted front ++ refusal) so_far.told
    stop.asked in
    record {
      front = done ++ front;
      last = stop.last;
      behind = stop.behind ++ rest;
      files_are = sym so_far.whole ∙ ap (λ l. done ++ (l ++ rest)) stop.files_are
          ∙ ap (λ l. done ++ l) (append_assoc front (last ++ stop.behind) rest
          ∙ ap (λ l. front ++ l) (append_assoc last stop.behind rest))
          ∙ sym (append_assoc done front (last ++ (stop.behind ++ rest)));
      asked = subst (λ (l : List Listening). TellsMore a c l)
          (sym (append_assoc (map granted done) (map granted front) refusal)
          ∙ ap (λ l. l ++ refusal) (sym (map-append granted done front))) told;
      wanting = stop.wanting;
    }

-- a process listens at all of them
pub listened_all : (files : List ℕ) (a b : Option (List Listening))
    → Listened files a b [] → TellsMore a b (map granted files)
listened_all files a b p = subst (λ (l : List ℕ). TellsMore a b (map granted l)) whole p.told
  where
    whole : p.done ≡ files
    whole = sym (append-nil p.done) ∙ p.whole

-- a fault after some files, and one before more of them
pub stops_behind : (front files : List ℕ) (fault : ListenFault)
    (a b c : Option (List Listening))
    → TellsMore a b (map granted front) → StopsListening files fault b c
    → StopsListening (front ++ files) fault a c
stops_behind front files fault a b c first stop =
    listened_stops (front ++ files) files [] fault a b c (record {
      done = front;
      told = first;
      whole = ap (λ l. front ++ l) (append-nil files);
    }) stop

pub stops_before : (files more : List ℕ) (fault : ListenFault) (a b : Option (List Listening))
    → StopsListening files fault a b → StopsListening (files ++ more) fault a b
stops_before files more fault a b stop =
    listened_stops (files ++ more) files more fault a a b (listened_none (files ++ more) a) stop

-- a process listens at these, but an allocation for more fails
pub stops_wanting : (files : List ℕ) (a b : Option (List Listening))
    → TellsMore a b (map granted files) → StopsListening files OutOfMemory a b
stops_wanting files a b told = record {
  front = files;
  last = None;
  behind = [];
  files_are = sym (append-nil files);
  asked = subst (λ (l : List Listening). TellsMore a b l) (sym (append-nil (map granted files)))
      told;
  wanting = refl;
}

-- what a `?` answers to a fault
pub stops_with : {X : Type 0} (files : List ℕ) (a b : Option (List Listening))
    (result : Result X ListenFault) (fault : ListenFault)
    → IsErrAnd result (λ f. f ≡ fault) → StopsListening files fault a b
    → ListensInTurn files (fault_of_result result) a b
stops_with files a b (Ok x) fault same stop = absurd same
stops_with files a b (Err f) fault same stop =
    subst (λ (g : ListenFault). StopsListening files g a b) (sym same) stop

-- one file was asked for
pub one_file : (number : ℕ) (a b : Option (List Listening)) → (number ≡ 0 → ⊥)
    → TellsMore a b (ListensAt number None ∷ [])
    → TellsMore a b (map granted (file_unless_0 number))
one_file zero a b some told = absurd (some refl)
one_file (suc n) a b some told = told

-- and refused
pub one_refused : (number : ℕ) (fault : ListenFault) (a b : Option (List Listening))
    → (number ≡ 0 → ⊥) → TellsMore a b (ListensAt number (Some fault) ∷ [])
    → StopsListening (file_unless_0 number) fault a b
one_refused zero fault a b some told = absurd (some refl)
one_refused (suc n) fault a b some told = record {
  front = [];
  last = Some (suc n);
  behind = [];
  files_are = refl;
  asked = told;
  wanting = tt;
}

-- the next port, and those after it
pub next_port : (numbers : List ℕ) (i number : ℕ) (found : Option ℕ) → i < length numbers
    → found ≡ slice_get numbers i → number ≡ unwrap_or found 0
    → drop i numbers ≡ number ∷ drop (i + 1) numbers
next_port numbers i number found below here is =
    let same = is ∙ ap (λ o. unwrap_or o 0) (here ∙ slice_get-get_or numbers i 0 below) in
    number_next numbers i below ∙ ap (λ n. n ∷ drop (i + 1) numbers) (sym same)

-- a process listens at all files but those of the ports to come, of which this is the next
pub listened_next : (files numbers : List ℕ) (i number : ℕ) (a b : Option (List Listening))
    → drop i numbers ≡ number ∷ drop (i + 1) numbers
    → Listened files a b (flat_map file_unless_0 (drop i numbers))
    → Listened files a b (file_unless_0 number ++ flat_map file_unless_0 (drop (i + 1) numbers))
listened_next files numbers i number a b here listened =
    subst (λ (l : List ℕ). Listened files a b (flat_map file_unless_0 l)) here listened

pub next_number : {X : Type 0} (f : ℕ → X) (before after all : List X) (numbers : List ℕ)
    (i number : ℕ) → drop i numbers ≡ number ∷ drop (i + 1) numbers
    → after ≡ before ++ f number ∷ [] → before ++ map f (drop i numbers) ≡ all
    → after ++ map f (drop (i + 1) numbers) ≡ all
next_number f before after all numbers i number here more whole =
    let rest = map f (drop (i + 1) numbers) in
    ap (λ l. l ++ rest) more ∙ append_assoc before (f number ∷ []) rest
    ∙ ap (λ l. before ++ map f l) (sym here) ∙ whole

-- one more, whose image is known
pub one_more : {A B : Type 0} (f : A → B) (before after : List A) (x : A) (y : B)
    → after ≡ before ++ x ∷ [] → f x ≡ y → map f after ≡ map f before ++ y ∷ []
one_more f before after x y is same =
    ap (λ l. map f l) is ∙ map-append f before (x ∷ []) ∙ ap (λ z. map f before ++ z ∷ []) same
