-- What a daemon reports of its totals, on its way to the error stream.
-- For `look`, `tell_count` and `tell`.
-- By cases: the text is known or not, and its line was written whole or not.
use Rattle.std.proofs.Common.{◌≡◌, ◌-◌, ◌<◌, ℕ, Bool, true, false, not, if◌then◌else◌, List, []}
use Rattle.std.proofs.Common.{◌++◌, take, codes, Option, None, Some, IfSome, refl, sym, ◌∙◌, ap, subst}
use Rattle.std.proofs.Common.{append_assoc, inl, inr}
use Rattle.std.proofs.KnownBytes.{Appends-nil}
use Rattle.std.specs.Fmt.{option_append}
use Rattle.std.specs.Io.KnownBytes.{Appends}
use Rattle.trdp_base.specs.NumberText.{text_of_number}
use Rattle.trdp_daemon.specs.declared.totals.Totals.{Totals}
use Rattle.trdp_script.specs.Writes.{PartlyWrites}
use Rattle.trdp_program.specs.Faults.{AppendsText}
use Rattle.trdp_program.specs.Reporting.{Looks, TellsCount, count_line}
use Rattle.trdp_program.specs.Streams.{cut_line_end}
use Rattle.trdp_program.specs.declared.reports.Reports.{Reports}

-- what holds of a line that has the end of a line that was cut at its front
pub behind_end : (end : List ℕ) (output : Option (List ℕ)) (P : List ℕ → Type 0)
    → IfSome (option_append (Some end) output) (λ text. P (text ++ codes "\n"))
    → IfSome output (λ text. P (end ++ text ++ codes "\n"))
behind_end end None P p = tt
behind_end end (Some text) P p = p

-- the parts of a line about a total, from the right, as they are written
abbrev parts_of : List ℕ → ℕ → List ℕ → List ℕ
parts_of what count latest =
    what ++ (codes " " ++ (text_of_number count ++ (codes " since the last line" ++ latest)))

-- they are its text
same_parts : (is_cut : Bool) (what : List ℕ) (count : ℕ) (latest : List ℕ)
    → cut_line_end is_cut ++ parts_of what count latest ++ codes "\n"
    ≡ count_line is_cut what count latest
same_parts is_cut what count latest =
    let number = text_of_number count in
    let since = codes " since the last line" in
    ap (λ l. cut_line_end is_cut ++ l ++ codes "\n")
    (sym (append_assoc what (codes " ") (number ++ (since ++ latest)))
    ∙ sym (append_assoc (what ++ codes " ") number (since ++ latest))
    ∙ sym (append_assoc (what ++ codes " " ++ number) since latest))

-- a line about a total, written whole or not
pub tells_more : (what latest : List ℕ) (told total told_then : ℕ)
    (is_whole is_cut is_cut_then : Bool) (old new : Option (List ℕ)) → told < total
    → PartlyWrites old new
    (cut_line_end is_cut ++ parts_of what (total - told) latest ++ codes "\n")
    → (is_whole ≡ true → Appends old new
    (cut_line_end is_cut ++ parts_of what (total - told) latest ++ codes "\n"))
    → is_cut_then ≡ not is_whole → told_then ≡ (if is_whole then total else told)
    → TellsCount what told total told_then is_cut is_cut_then old new
tells_more what latest told total told_then true is_cut is_cut_then old new more front whole cut
    is = inr (record {
      more = more;
      latest = latest;
      front = subst (PartlyWrites old new) (same_parts is_cut what (total - told) latest) front;
      whole = λ same. subst (Appends old new) (same_parts is_cut what (total - told) latest)
          (whole refl);
      told_is = is ∙ sym (ap (λ b. if b then told else total) cut);
    })
tells_more what latest told total told_then false is_cut is_cut_then old new more front whole cut
    is = inr (record {
      more = more;
      latest = latest;
      front = subst (PartlyWrites old new) (same_parts is_cut what (total - told) latest) front;
      whole = λ same. absurd (cc);
      told_is = is ∙ sym (ap (λ b. if b then told else total) cut);
    })

-- what is reported of a total is some text
pub count_text : (what : List ℕ) (told total told_then : ℕ) (is_cut is_cut_then : Bool)
    (old new : Option (List ℕ)) → TellsCount what told total told_then is_cut is_cut_then old new
    → AppendsText old new
count_text what told total told_then is_cut is_cut_then old new (inl none) =
    subst (λ (t : Option (List ℕ)). AppendsText old t) (sym none.3) ([], Appends-nil old)
count_text what told total told_then is_cut is_cut_then old new (inr p) =
    (take p.front.0 (count_line is_cut what (total - told) p.latest), p.front.1)

-- a look, of what it reports in turn
pub looks : {totals : Totals} {old new : Reports} {lost_then unread_before unread_then : ℕ}
    {is_cut_lost is_cut_unread : Bool}
    {errors behind_lost behind_unread errors_then : Option (List ℕ)}
    → TellsCount (codes "lost") old.lost totals.lost lost_then old.is_cut is_cut_lost errors
    behind_lost
    → TellsCount (codes "unread") unread_before totals.unread unread_then is_cut_lost is_cut_unread
    behind_lost behind_unread → AppendsText behind_unread errors_then → new.lost ≡ lost_then
    → unread_before ≡ old.unread → new.unread ≡ unread_then
    → Looks totals old new errors errors_then
looks {totals} {old} {new} {lost_then} {unread_before} {unread_then} {is_cut_lost} {is_cut_unread}
    {errors} {behind_lost} {behind_unread} p q r lost before unread = record {
      is_cut_lost = is_cut_lost;
      is_cut_unread = is_cut_unread;
      behind_lost = behind_lost;
      behind_unread = behind_unread;
      lost = subst (λ (n : ℕ). TellsCount (codes "lost") old.lost totals.lost n old.is_cut
          is_cut_lost errors behind_lost) (sym lost) p;
      unread = subst (λ (n : ℕ). TellsCount (codes "unread") n totals.unread new.unread is_cut_lost
          is_cut_unread behind_lost behind_unread) before
          (subst (λ (n : ℕ). TellsCount (codes "unread") unread_before totals.unread n is_cut_lost
          is_cut_unread behind_lost behind_unread) (sym unread) q);
      missing = r;
    }
