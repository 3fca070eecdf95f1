-- The seats of a path, as they are read and set.
-- For `Path`.
-- By: what is read at a place; the only seat of one is the first.
use Rattle.std.proofs.Common.{◌≡◌, ℕ, zero, suc, ◌<◌, List, [], ◌∷◌, Option, None, Some, length, set}
use Rattle.std.proofs.Common.{get_or, refl, ap, sym, subst, ◌∙◌, arith}
use Rattle.std.proofs.lemmas.List.{get_or-set_other, get_or-set_same, get_or_read, set-get_or}
use Rattle.trdp_lines.specs.Conversations.{ConversationState}
use Rattle.trdp_lines.specs.Fates.{KeepTaken}
use Rattle.trdp_lines.specs.Seats.{free_seat, seat_at}
use Rattle.trdp_lines.specs.Turns.{KeepsOthers}

-- the seat at a place, as it is read
pub seat_read : (seats : List ConversationState) (place : ℕ) (c : ConversationState)
    → place < length seats → c ≡ get_or seats place c → seat_at seats place ≡ c
seat_read seats place c within here = sym (get_or_read seats place c within here free_seat)

-- a seat is what is read at its place, whatever would be read beyond the last
pub seat_here : (seats : List ConversationState) (place : ℕ) → place < length seats
    → seat_at seats place ≡ get_or seats place (seat_at seats place)
seat_here [] place within = absurd (omega (arith, within))
seat_here (c ∷ seats) zero within = refl
seat_here (c ∷ seats) (suc place) within = seat_here seats place (omega (arith, within))

-- a seat that is set to what it was
pub set_read : (seats : List ConversationState) (place : ℕ) (c : ConversationState)
    → c ≡ get_or seats place c → set seats place c ≡ seats
set_read seats place c here = ap (set seats place) here ∙ set-get_or seats place c

-- the number of the connection at a place, as it is read
pub number_read : (seats : List ConversationState) (place : ℕ) (c : ConversationState)
    (whose : Option ℕ) → place < length seats → c ≡ get_or seats place c
    → (seat_at seats place).number ≡ whose → c.number ≡ whose
number_read seats place c whose within here number =
    ap (λ (seat : ConversationState). seat.number)
    (get_or_read seats place c within here free_seat) ∙ number

-- the seat that was set
pub seat_set : (seats : List ConversationState) (place : ℕ) (c : ConversationState)
    → place < length seats → seat_at (set seats place c) place ≡ c
seat_set seats place c within = get_or-set_same seats place c free_seat within

-- the first seat is the one that is read, where there is one
pub first_seat : (seats : List ConversationState) (place : ℕ) (c : ConversationState) → place < 1
    → place < length seats → c ≡ get_or seats place c → seat_at seats 0 ≡ c
first_seat seats place c low within here =
    let zeroth : place ≡ 0 = omega (arith, low) in
    subst (λ (p : ℕ). seat_at seats p ≡ c) zeroth (seat_read seats place c within here)

-- and the one that is set
pub first_set : (seats : List ConversationState) (place : ℕ) (c : ConversationState) → place < 1
    → place < length seats → seat_at (set seats place c) 0 ≡ c
first_set seats place c low within =
    let zeroth : place ≡ 0 = omega (arith, low) in
    subst (λ (p : ℕ). seat_at (set seats place c) p ≡ c) zeroth (seat_set seats place c within)

-- all others are kept where one seat is set
pub others_kept : (seats : List ConversationState) (place : ℕ) (c : ConversationState)
    → KeepsOthers place seats (set seats place c)
others_kept seats place c = λ k other. get_or-set_other seats place k c free_seat other

-- each seat that is taken is kept where a free one is set
pub taken_kept : (seats : List ConversationState) (place : ℕ) (c : ConversationState)
    → (seat_at seats place).number ≡ None → KeepTaken seats (set seats place c)
taken_kept seats place c free = λ k n some.
    others_kept seats place c k (λ same.
    let never : None ≡ Some n = sym free
    ∙ ap (λ (p : ℕ). (seat_at seats p).number) (sym same) ∙ some in
    cc)
