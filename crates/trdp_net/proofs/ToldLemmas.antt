-- An answer that was reported to a caller is known by its place: no other was reported from there.
-- For `no_early_done`, through `DoneLemmas`.
-- By induction on the records and on the moves, since no place is among those of it twice.
use Rattle.std.proofs.Common.{◌≡◌, ℕ, List, [], ◌∷◌, ◌++◌, Option, Bool, true, false}
use Rattle.std.proofs.Common.{refl, sym, subst, arith, inl, inr, slice_get}
use Rattle.std.specs.Prelude.{◌==◌, if◌then◌else◌}
use Rattle.std.proofs.lemmas.Bool.Decides.{nat_tests}
use Rattle.trdp_base.specs.declared.place.Place.{Place}
use Rattle.trdp_base.specs.declared.session.SessionId.{SessionId}
use Rattle.trdp_head.specs.declared.md.MdKind.{MdKind}
use Rattle.trdp_md.specs.Answers.{is_place}
use Rattle.trdp_model.specs.Records.{Content, Indicates}
use Rattle.trdp_model.specs.Records.{RepliedIs}
use Rattle.trdp_model.specs.Records.{ReplyModel}
use Rattle.trdp_model.specs.Slots.{SlotState}
use Rattle.trdp_net.specs.Networks.{Move}
use Rattle.trdp_net.specs.Provenance.{Ever, In, Spot, IsReplied}
use Rattle.trdp_net.specs.Promises.{IsToldOf, replied_in, told_in, replied_at, all_replied}
use Rattle.trdp_net.specs.Promises.{IsNew, AreDistinct}
use Rattle.trdp_net.proofs.PartLemmas.{in_left, in_right}
use Rattle.trdp_net.proofs.HeardEntryLemmas.{told_append}

-- a place is none of these, but is one of them
pub new_or_in : (p : Place) (ps : List Place) → IsNew p ps → In p ps → ⊥
new_or_in p [] new is = is
new_or_in p (q ∷ ps) new (inl same) =
    let other : is_place p p ≡ false = subst (λ (x : Place). is_place x p ≡ false) same new.0 in
    absurd (itself p other)
  where
    itself : (x : Place) → is_place x x ≡ false → ⊥
    itself x other = grind (arith, nat_tests)
new_or_in p (q ∷ ps) new (inr is) = new_or_in p ps new.1 is

-- what is distinct stays so without its first part
pub distinct_rest : (ps qs : List Place) → AreDistinct (ps ++ qs) → AreDistinct qs
distinct_rest [] qs distinct = distinct
distinct_rest (p ∷ ps) qs distinct = distinct_rest ps qs distinct.1

-- and without its second part
distinct_first : (ps qs : List Place) → AreDistinct (ps ++ qs) → AreDistinct ps
distinct_first [] qs distinct = tt
distinct_first (p ∷ ps) qs distinct =
    (new_first ps distinct.0, distinct_first ps qs distinct.1)
  where
    new_first : (rest : List Place) → IsNew p (rest ++ qs) → IsNew p rest
    new_first [] new = tt
    new_first (q ∷ rest) new = (new.0, new_first rest new.1)

-- a place of the first part is none of the second
distinct_parts : (p : Place) (ps qs : List Place) → AreDistinct (ps ++ qs) → In p ps → In p qs → ⊥
distinct_parts p [] qs distinct first second = first
distinct_parts p (q ∷ ps) qs distinct (inl same) second =
    new_or_in q (ps ++ qs) distinct.0
    (in_right q ps qs (subst (λ (x : Place). In x qs) (sym same) second))
distinct_parts p (q ∷ ps) qs distinct (inr first) second =
    distinct_parts p ps qs distinct.1 first second

-- the place of an answer that the records report
replied_place : (h : ℕ) (answer : ReplyModel) (records : List Content)
    → In (Indicates (RepliedIs h answer)) records → In answer.src (replied_in h records)
replied_place h answer [] is = absurd is
replied_place h answer (first ∷ records) (inl same) =
    subst (λ (x : Content). In answer.src (replied_in h (x ∷ records))) (sym same)
    (here (h == h) itself)
  where
    itself : (h == h) ≡ true
    itself = grind (arith, nat_tests)

    here : (b : Bool) → b ≡ true
        → In answer.src (if b then answer.src ∷ replied_in h records else replied_in h records)
    here true is = inl refl
    here false is = absurd (cc is)
replied_place h answer (first ∷ records) (inr is) =
    subst (λ (ps : List Place). In answer.src ps) (sym (told_append h (first ∷ []) records))
    (in_right answer.src (replied_in h (first ∷ [])) (replied_in h records)
    (replied_place h answer records is))

-- the records report one answer from a place
one_reply : (h : ℕ) (a b : ReplyModel) (records : List Content)
    → AreDistinct (replied_in h records) → a.src ≡ b.src
    → In (Indicates (RepliedIs h a)) records → In (Indicates (RepliedIs h b)) records → a ≡ b
one_reply h a b [] distinct same first second = absurd first
one_reply h a b (c ∷ records) distinct same first second =
    either first second
    (subst (λ (ps : List Place). AreDistinct ps) (told_append h (c ∷ []) records) distinct)
    (λ rest in_a in_b. one_reply h a b records rest same in_a in_b)
  where
    apart : (x y : ReplyModel) → x.src ≡ y.src → c ≡ Indicates (RepliedIs h x)
        → In (Indicates (RepliedIs h y)) records
        → AreDistinct (replied_in h (c ∷ []) ++ replied_in h records) → ⊥
    apart x y of_one is later parts =
        distinct_parts x.src (replied_in h (c ∷ [])) (replied_in h records) parts
        (replied_place h x (c ∷ []) (inl is))
        (subst (λ (p : Place). In p (replied_in h records)) (sym of_one)
        (replied_place h y records later))

    either : In (Indicates (RepliedIs h a)) (c ∷ records)
        → In (Indicates (RepliedIs h b)) (c ∷ records)
        → AreDistinct (replied_in h (c ∷ []) ++ replied_in h records)
        → (AreDistinct (replied_in h records) → In (Indicates (RepliedIs h a)) records
        → In (Indicates (RepliedIs h b)) records → a ≡ b)
        → a ≡ b
    either (inl is_a) (inl is_b) parts later = cc
    either (inl is_a) (inr in_b) parts later = absurd (apart a b same is_a in_b parts)
    either (inr in_a) (inl is_b) parts later = absurd (apart b a (sym same) is_b in_a parts)
    either (inr in_a) (inr in_b) parts later =
        later (distinct_rest (replied_in h (c ∷ [])) (replied_in h records) parts) in_a in_b

-- the records of the caller's slot at a move that reported an answer to it
told_records : (at : Spot) (m : Move) (past : List Move) (answer : ReplyModel)
    → IsToldOf at answer m past
    → In (Indicates (RepliedIs at.handle answer))
    (told_in at.slot m (slice_get m.before.slots at.slot))
told_records at m past answer gives =
    subst
    (λ (o : Option SlotState). In (Indicates (RepliedIs at.handle answer)) (told_in at.slot m o))
    (sym gives.slot_is) gives.given

-- the places of the answers that are reported to a caller at a move of its node
replied_here : (at : Spot) (m : Move) → m.node ≡ at.node
    → replied_at at m
    ≡ replied_in at.handle (told_in at.slot m (slice_get m.before.slots at.slot))
replied_here at m is =
    let here : (m.node == at.node) ≡ true = grind (arith, nat_tests) in rw here refl

told_place : (at : Spot) (m : Move) (past : List Move) (answer : ReplyModel)
    → IsToldOf at answer m past → In answer.src (replied_at at m)
told_place at m past answer gives =
    subst (λ (ps : List Place). In answer.src ps) (sym (replied_here at m gives.node_is))
    (replied_place at.handle answer (told_in at.slot m (slice_get m.before.slots at.slot))
    (told_records at m past answer gives))

-- the place of an answer that was ever reported to a caller
pub ever_place : (at : Spot) (answer : ReplyModel) (h : List Move) → Ever (IsToldOf at answer) h
    → In answer.src (all_replied at h)
ever_place at answer [] told = absurd told
ever_place at answer (m ∷ past) (inl gives) =
    in_left answer.src (replied_at at m) (all_replied at past)
    (told_place at m past answer gives)
ever_place at answer (m ∷ past) (inr told) =
    in_right answer.src (replied_at at m) (all_replied at past) (ever_place at answer past told)

-- one answer of one place was reported to a caller
pub one_answer : (at : Spot) (a b : ReplyModel) (h : List Move)
    → AreDistinct (all_replied at h) → a.src ≡ b.src
    → Ever (IsToldOf at a) h → Ever (IsToldOf at b) h → a ≡ b
one_answer at a b [] distinct same told_a told_b = absurd told_a
one_answer at a b (m ∷ past) distinct same (inl is_a) (inl is_b) =
    one_reply at.handle a b (told_in at.slot m (slice_get m.before.slots at.slot))
    (subst (λ (ps : List Place). AreDistinct ps) (replied_here at m is_a.node_is)
    (distinct_first (replied_at at m) (all_replied at past) distinct))
    same (told_records at m past a is_a) (told_records at m past b is_b)
one_answer at a b (m ∷ past) distinct same (inl is_a) (inr told_b) =
    absurd (distinct_parts a.src (replied_at at m) (all_replied at past) distinct
    (told_place at m past a is_a)
    (subst (λ (p : Place). In p (all_replied at past)) (sym same) (ever_place at b past told_b)))
one_answer at a b (m ∷ past) distinct same (inr told_a) (inl is_b) =
    absurd (distinct_parts b.src (replied_at at m) (all_replied at past) distinct
    (told_place at m past b is_b)
    (subst (λ (p : Place). In p (all_replied at past)) same (ever_place at a past told_a)))
one_answer at a b (m ∷ past) distinct same (inr told_a) (inr told_b) =
    one_answer at a b past (distinct_rest (replied_at at m) (all_replied at past) distinct) same
    told_a told_b

-- the answer of an indication that is known by its place and its message type
pub told_of_it : (at : Spot) (session : SessionId) (place : Place) (kind : MdKind)
    (h : List Move) → Ever (IsReplied at session place kind) h
    → (answer : ReplyModel) × (answer.src ≡ place) × (answer.kind ≡ kind)
    × Ever (IsToldOf at answer) h
told_of_it at session place kind [] replied = absurd replied
told_of_it at session place kind (m ∷ past) (inl is) =
    (is.answer, is.place_is, is.kind_is, inl is.gives)
told_of_it at session place kind (m ∷ past) (inr replied) =
    let rest = told_of_it at session place kind past replied in
    (rest.0, rest.1, rest.2, inr rest.3)
