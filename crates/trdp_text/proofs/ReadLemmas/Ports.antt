-- Facts on lines at the control port of a slot and at the operator's port.
-- For `read_control_event` and `read_operator`, and what the daemon may lose.
-- By: a control line is that of a call with two words before it; the operator has a few forms.
use Rattle.std.proofs.Common.{◌≡◌, ℕ, ◌+◌, ◌^◌, ◌<◌, ◌≤◌, ◌==◌, nat_lt, Bool, true, false, List, []}
use Rattle.std.proofs.Common.{◌∷◌, ◌++◌, length, Ok, Err, refl, sym, ap, ◌∙◌, inl, arith}
use Rattle.std.proofs.Common.{length-append, take, Bor}
use Rattle.std.proofs.Common.{Option, Some, None, Result, if◌then◌else◌}
use Rattle.std.specs.Option.{option_and_then}
use Rattle.std.proofs.lemmas.Bool.Decides.{nat_tests}
use Rattle.std.proofs.lemmas.List.Elements.{All-nil, All-cons}
use Rattle.std.proofs.lemmas.List.Splits.{slice_split_at}
use Rattle.trdp_base.specs.NumberText.{text_of_number}
use Rattle.trdp_base.specs.QuotaLimits.{quota_limit}
use Rattle.trdp_model.specs.Events.{EventModel, MomentIs, TopologyIs, RoleIs, DatagramIs}
use Rattle.trdp_model.specs.Events.{CallIs, AddSlotIs}
use Rattle.trdp_text.specs.Forms.{call_word, event_in, forms, has_keywords}
use Rattle.trdp_text.specs.Forms.{role_form, topology_form, add_slot_form}
use Rattle.trdp_text.specs.Words.{words_of, first_word, other_words, number_of_word}
use Rattle.trdp_text.specs.WordsLeft.{words_at}
use Rattle.trdp_text.specs.Lines.{ReadsOrSkips, event_or_fault, form_says, is_skipped}
use Rattle.trdp_text.specs.Lines.{line_among}
use Rattle.trdp_text.specs.Lines.{may_have, say_among, words_say}
use Rattle.trdp_text.specs.PortLines.{call_line, control_line_of, operator_forms}
use Rattle.trdp_text.specs.PortLines.{without_end}
use Rattle.trdp_text.specs.declared.fault.LineFault.{LineFault}
use Rattle.trdp_text.specs.declared.fault.LineFault.TheVariants.{TooLong, Count, OutOfMemory}
use Rattle.trdp_text.proofs.ReadLemmas.Fields.{number_lacks_byte}

-- the words of the line of a call
call_words : (slot : ℕ) (text : List ℕ) → slot < 2 ^ 16
    → words_of (call_line slot text) ≡ call_word ∷ text_of_number slot ∷ words_of text
unfolding words_of call_line
call_words slot text small =
    let space : ℕ → Bool = λ byte. byte == 32 in
    let bare = λ (byte : ℕ). (byte == 32) ≡ false in
    let call_bare = All-cons bare 99 (97 ∷ 108 ∷ 108 ∷ []) refl (All-cons bare 97 (108 ∷ 108 ∷ [])
    refl (All-cons bare 108 (108 ∷ []) refl (All-cons bare 108 [] refl (All-nil bare)))) in
    slice_split_at space call_word 32 (text_of_number slot ++ 32 ∷ text) call_bare refl
    ∙ ap (λ words. call_word ∷ words) (slice_split_at space (text_of_number slot)
    32 text (number_lacks_byte 32 slot (omega (arith, small)) (inl (omega arith))) refl)

-- the length of the line of a call
call_length : (slot : ℕ) (text : List ℕ)
    → length (call_line slot text) ≡ 6 + length (text_of_number slot) + length text
unfolding call_line
call_length slot text = omega (arith, length-append (text_of_number slot) (32 ∷ text))

-- it isn't skipped
call_begins : (slot : ℕ) (text : List ℕ) → is_skipped (call_line slot text) ≡ false
unfolding call_line
call_begins slot text = refl

-- a line that is too long with `call SLOT ` before it
pub control_too_long : (slot : ℕ) (digits text bytes : List ℕ) → digits ≡ text_of_number slot → text
    ≡ without_end bytes → is_skipped text ≡ false → 140000 < 5 + length digits + 1 + length text
    → control_line_of slot bytes ≡ Err TooLong
unfolding control_line_of line_among
control_too_long slot digits text bytes shown is some long =
    let tells : nat_lt 140000 (length (call_line slot text)) ≡ true =
    grind (arith, nat_tests, call_length slot text, ap length shown, long) in
    rw (sym is, some, tells) refl

-- another line that isn't skipped
pub control_says : (slot : ℕ) (digits text bytes : List ℕ) → digits ≡ text_of_number slot
    → slot < 2 ^ 16 → text ≡ without_end bytes → is_skipped text ≡ false
    → 5 + length digits + 1 + length text ≤ 140000 → control_line_of slot bytes
    ≡ say_among forms (call_word ∷ digits ∷ words_of text)
unfolding control_line_of line_among
control_says slot digits text bytes shown small is some short =
    let tells : nat_lt 140000 (length (call_line slot text)) ≡ false =
    grind (arith, nat_tests, call_length slot text, ap length shown, short) in
    rw (sym is, some, tells, call_begins slot text, call_words slot text small, shown) refl

-- the words that are cut after `call` and the slot
pub call_cut : (none one two all : List (Bor (List ℕ))) (call slot : Bor (List ℕ)) (text : List ℕ)
    → none ≡ [] → one ≡ none ++ call ∷ [] → two ≡ one ++ slot ∷ []
    → words_at all ≡ take 15 (words_at two ++ words_of text)
    → words_at all ≡ take 15 (call.now ∷ slot.now ∷ words_of text)
call_cut none one two all call slot text at_first then_one then_two cut =
    cut ∙ ap (λ items. take 15 (words_at items ++ words_of text))
    (then_two ∙ ap (λ items. items ++ slot ∷ [])
    (then_one ∙ ap (λ items. items ++ call ∷ []) at_first))

-- what a line can mean at the operator's port: topology counters, a role, a slot that is opened,
-- nothing, or a fault
abbrev pub IsOperators : Result (Option EventModel) LineFault → Type 0
IsOperators (Err fault) = fault ≡ OutOfMemory → ⊥
IsOperators (Ok None) = Unit {0}
IsOperators (Ok (Some (MomentIs t))) = ⊥
IsOperators (Ok (Some (TopologyIs topo))) = Unit {0}
IsOperators (Ok (Some (RoleIs group leader))) = Unit {0}
IsOperators (Ok (Some (DatagramIs protocol src dst bytes))) = ⊥
IsOperators (Ok (Some (CallIs slot call))) = ⊥
IsOperators (Ok (Some (AddSlotIs quotas))) = Unit {0}

topology_said : (etb op_trn : Option ℕ) → IsOperators (event_or_fault (option_and_then (λ e.
    option_and_then (λ o. Some (TopologyIs (record { etb = e; op_trn = o }))) op_trn) etb))
topology_said None op_trn = λ is. absurd (cc)
topology_said (Some e) None = λ is. absurd (cc)
topology_said (Some e) (Some o) = tt

role_said : (group : Option ℕ) (leader : Option Bool) → IsOperators (event_or_fault
    (option_and_then (λ g. option_and_then (λ l. Some (RoleIs g l)) leader) group))
role_said None leader = λ is. absurd (cc)
role_said (Some g) None = λ is. absurd (cc)
role_said (Some g) (Some l) = tt

add_slot_said : (p s r l c e : Option ℕ) → IsOperators (event_or_fault
    (option_and_then (λ publishers. option_and_then (λ subscriptions. option_and_then (λ requesters.
    option_and_then (λ listeners. option_and_then (λ callers. option_and_then (λ repliers.
    Some (AddSlotIs (publishers ∷ subscriptions ∷ requesters ∷ listeners ∷ callers ∷ repliers
    ∷ []))) e) c) l) r) s) p))
add_slot_said None s r l c e = λ is. absurd (cc)
add_slot_said (Some p) None r l c e = λ is. absurd (cc)
add_slot_said (Some p) (Some s) None l c e = λ is. absurd (cc)
add_slot_said (Some p) (Some s) (Some r) None c e = λ is. absurd (cc)
add_slot_said (Some p) (Some s) (Some r) (Some l) None e = λ is. absurd (cc)
add_slot_said (Some p) (Some s) (Some r) (Some l) (Some c) None = λ is. absurd (cc)
add_slot_said (Some p) (Some s) (Some r) (Some l) (Some c) (Some e) = tt

-- of the right number of words or not
counted_said : (right : Bool) (event : Option EventModel) → IsOperators (event_or_fault event)
    → IsOperators (if right then event_or_fault event else Err Count)
counted_said true event is = is
counted_said false event is = λ same. absurd (cc)

topology_words : (words : List (List ℕ)) → IsOperators (form_says topology_form words)
unfolding form_says
topology_words words =
    counted_said (may_have topology_form.parts (length words)) (event_in topology_form words)
    (topology_said _ _)

role_words : (words : List (List ℕ)) → IsOperators (form_says role_form words)
unfolding form_says
role_words words = counted_said (may_have role_form.parts (length words)) (event_in role_form words)
    (role_said _ _)

-- the quota that the second of these words is
abbrev quota_next : List (List ℕ) → Option ℕ
quota_next words = number_of_word quota_limit (first_word (other_words words))

abbrev past_two : List (List ℕ) → List (List ℕ)
past_two words = other_words (other_words words)

add_slot_words : (words : List (List ℕ)) → IsOperators (form_says add_slot_form words)
unfolding form_says
add_slot_words words =
    counted_said (may_have add_slot_form.parts (length words)) (event_in add_slot_form words)
    (add_slot_said (quota_next words) (quota_next (other_words words))
    (quota_next (past_two words)) (quota_next (other_words (past_two words)))
    (quota_next (past_two (past_two words)))
    (quota_next (other_words (past_two (past_two words)))))

other_words_said : (words : List (List ℕ)) → IsOperators (words_say None words)
unfolding words_say
other_words_said words = λ is. absurd (cc)

pub operators_words : (words : List (List ℕ))
    → IsOperators (say_among operator_forms words)
unfolding say_among operator_forms
operators_words words = by_form (has_keywords topology_form.parts words)
    (has_keywords role_form.parts words) (has_keywords add_slot_form.parts words)
  where
    by_form : (topology role add_slot : Bool)
        → IsOperators (words_say (if topology then Some topology_form
        else (if role then Some role_form
        else (if add_slot then Some add_slot_form else None))) words)
    by_form true role add_slot = topology_words words
    by_form false true add_slot = role_words words
    by_form false false true = add_slot_words words
    by_form false false false = other_words_said words

-- it is never out of memory
pub operators_never_want : (meaning : Result (Option EventModel) LineFault) (fault : LineFault)
    → IsOperators meaning → ReadsOrSkips meaning (Err fault) → fault ≡ OutOfMemory → ⊥
operators_never_want (Err bad) fault never reads is = never (sym reads ∙ is)
operators_never_want (Ok None) fault of reads is = let none = reads.1 in absurd (cc)
operators_never_want (Ok (Some (MomentIs t))) fault of reads is = absurd of
operators_never_want (Ok (Some (TopologyIs topo))) fault of reads is =
    let none = reads.1 in absurd (cc)
operators_never_want (Ok (Some (RoleIs group leader))) fault of reads is =
    let none = reads.1 in absurd (cc)
operators_never_want (Ok (Some (DatagramIs protocol src dst bytes))) fault of reads is = absurd of
operators_never_want (Ok (Some (CallIs slot call))) fault of reads is = absurd of
operators_never_want (Ok (Some (AddSlotIs quotas))) fault of reads is =
    let none = reads.1 in absurd (cc)
