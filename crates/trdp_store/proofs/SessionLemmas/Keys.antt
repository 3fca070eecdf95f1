-- Which key the index by session has, once an object was added or removed.
-- For `SessionLemmas.Kept` and `Open`, and for what the node above finds by session.
-- By cases: the object is in that session and role, in the same slot, or it changes nothing.
use Rattle.std.proofs.Common.{◌≡◌, ◌≢◌, ℕ, List, Option, Some, None, Bool, true}
use Rattle.std.proofs.Common.{false, IfSome, refl, ◌∙◌, sym, ap, subst, arith}
use Rattle.std.proofs.lemmas.Bool.Decides.{nat_tests}
use Rattle.std.proofs.lemmas.Option.{none-some}
use Rattle.trdp_base.specs.declared.session.SessionId.{SessionId}
use Rattle.trdp_index.specs.declared.rank.Rank.{Rank}
use Rattle.trdp_index.specs.declared.session_row.Role.{Role}
use Rattle.trdp_index.specs.declared.session_row.Role.TheVariants.{Caller as AsCaller}
use Rattle.trdp_index.specs.declared.session_row.Role.TheVariants.{Replier as AsReplier}
use Rattle.trdp_index.specs.declared.session_row.SessionRow.{SessionRow}
use Rattle.trdp_index.specs.Ranks.{is_same}
use Rattle.trdp_index.specs.SessionRows.{role_number, session_rank, session_key}
use Rattle.trdp_store.specs.InSession.{key_with, key_without}
use Rattle.trdp_store.proofs.ComLemmas.Added.{same_first, same_self, other_slot}

-- A confirmation leaves a caller's terms as they are.

-- Which session and role a rank is of.

same_last : (x y : Rank) → is_same x y ≡ true → x.last ≡ y.last
unfolding is_same
same_last x y same = grind (arith, nat_tests)

same_role : (a b : Role) → role_number a ≡ role_number b → a ≡ b
same_role AsCaller AsCaller same = refl
same_role AsCaller AsReplier same = absurd (omega (arith, same))
same_role AsReplier AsCaller same = absurd (omega (arith, same))
same_role AsReplier AsReplier same = refl

pub same_session : (a b : SessionId) → a.0 ≡ b.0 → a ≡ b
same_session a b same = ap (λ (n : ℕ). let session : SessionId = record { 0 = n } in session) same

pub same_own : (a b : SessionId × Role) (s t : ℕ)
    → is_same (session_rank a.0 s a.1) (session_rank b.0 t b.1) ≡ true → a ≡ b
same_own a b s t same =
    let session : a.0 ≡ b.0 =
    same_session a.0 b.0 (same_first (session_rank a.0 s a.1) (session_rank b.0 t b.1) same) in
    let role : a.1 ≡ b.1 =
    same_role a.1 b.1 (same_last (session_rank a.0 s a.1) (session_rank b.0 t b.1) same) in
    ap (λ (x : SessionId). let own : SessionId × Role = (x, a.1) in own) session
    ∙ ap (λ (r : Role). let own : SessionId × Role = (b.0, r) in own) role

own_rank : (own : SessionId × Role) (s : ℕ)
    → is_same (session_rank own.0 s own.1) (session_rank own.0 s own.1) ≡ true
own_rank own s = same_self own.0.0 s (role_number own.1)

-- Which key is found once an object was added or removed.

-- that of a new object
pub with_new : (own : SessionId × Role) (s key : ℕ) (known : Option ℕ)
    → key_with (Some own) s key own s known ≡ Some key
with_new own s key known = rw (own_rank own s) refl

-- in other slots the same
pub with_apart :
    (o : Option (SessionId × Role)) (s t key : ℕ) (own : SessionId × Role) (known : Option ℕ)
    → s ≢ t → key_with o s key own t known ≡ known
with_apart None s t key own known apart = refl
with_apart (Some its) s t key own known apart =
    rw (other_slot its.0.0 own.0.0 s t (role_number its.1) (role_number own.1) apart) refl

-- that of an object which was there
pub with_known :
    (o : Option (SessionId × Role)) (s key k : ℕ) (own : SessionId × Role) (rows : List SessionRow)
    → IfSome o (λ its. session_key its.0 s its.1 rows ≡ None) → session_key own.0 s own.1 rows
    ≡ Some k → key_with o s key own s (session_key own.0 s own.1 rows) ≡ Some k
with_known None s key k own rows fresh at = at
with_known (Some its) s key k own rows fresh at =
    either (is_same (session_rank its.0 s its.1) (session_rank own.0 s own.1)) refl
  where
    either : (b : Bool) → is_same (session_rank its.0 s its.1) (session_rank own.0 s own.1) ≡ b
        → key_with (Some its) s key own s (session_key own.0 s own.1 rows) ≡ Some k
    either true is =
        let none : session_key own.0 s own.1 rows ≡ None = subst (λ (o : SessionId × Role).
        session_key o.0 s o.1 rows ≡ None) (same_own its own s s is) fresh in
        absurd (none-some k (sym none ∙ at))
    either false is = rw is at

pub without_own : (own : SessionId × Role) (s : ℕ) (known : Option ℕ)
    → key_without (Some own) s own s known ≡ None
without_own own s known = rw (own_rank own s) refl

pub without_apart :
    (o : Option (SessionId × Role)) (s t : ℕ) (own : SessionId × Role) (known : Option ℕ)
    → s ≢ t → key_without o s own t known ≡ known
without_apart None s t own known apart = refl
without_apart (Some its) s t own known apart =
    rw (other_slot its.0.0 own.0.0 s t (role_number its.1) (role_number own.1) apart) refl

-- a key that is found was found
pub without_found :
    (o : Option (SessionId × Role)) (s t k : ℕ) (own : SessionId × Role) (known : Option ℕ)
    → key_without o s own t known ≡ Some k → known ≡ Some k
without_found None s t k own known at = at
without_found (Some its) s t k own known at =
    either (is_same (session_rank its.0 s its.1) (session_rank own.0 t own.1)) refl at
  where
    either : (b : Bool) → is_same (session_rank its.0 s its.1) (session_rank own.0 t own.1) ≡ b
        → key_without (Some its) s own t known ≡ Some k → known ≡ Some k
    either true is at = absurd (none-some k (rw is at at))
    either false is at = rw is at at

-- that of another session or role is still found
pub without_other :
    (o : Option (SessionId × Role)) (s k : ℕ) (own : SessionId × Role) (known : Option ℕ)
    → o ≢ Some own → known ≡ Some k → key_without o s own s known ≡ Some k
without_other None s k own known apart at = at
without_other (Some its) s k own known apart at =
    either (is_same (session_rank its.0 s its.1) (session_rank own.0 s own.1)) refl
  where
    either : (b : Bool) → is_same (session_rank its.0 s its.1) (session_rank own.0 s own.1) ≡ b
        → key_without (Some its) s own s known ≡ Some k
    either true is = absurd (apart (ap (λ (o : SessionId × Role).
        let some : Option (SessionId × Role) = Some o in some) (same_own its own s s is)))
    either false is = rw is at
