-- The text of intervals, one line more or less.
use Rattle.std.proofs.Common.{◌≡◌, ℕ, ◌+◌, ◌≤◌, List, [], ◌∷◌, ◌++◌, length, take, sym, ap, ◌∙◌, arith, length-append}
use Rattle.std.specs.List.{flat_map}
use Rattle.std.proofs.lemmas.List.{flat_map_more}
use Rattle.documents.specs.declared.document.Document.{Document}
use Rattle.questions.specs.declared.window.Window.{Window}
use Rattle.questions.specs.declared.schedule.Interval.{Interval}
use Rattle.questions.specs.Walks.{intervals_before}
use Rattle.questions.specs.Texts.{interval_text, interval_length, schedule_names, intervals_text}

length_line : (i : Interval) → length (interval_text i) ≡ interval_length i
length_line i = simp length-append (omega arith)

pub text_pushed : (is js : List Interval) (i : Interval) → is ≡ js ++ i ∷ [] → intervals_text is ≡ intervals_text js ++ interval_text i
text_pushed is js i e = ap intervals_text e ∙ sym (flat_map_more interval_text schedule_names js i)

pub joined_length : (is js : List Interval) (i : Interval) → is ≡ js ++ i ∷ [] → length (flat_map interval_text is) ≡ length (flat_map interval_text js) + interval_length i
joined_length is js i e =
    ap (λ (xs : List Interval). length (flat_map interval_text xs)) e
    ∙ ap length (sym (flat_map_more interval_text [] js i))
    ∙ length-append (flat_map interval_text js) (interval_text i)
    ∙ ap (λ n. length (flat_map interval_text js) + n) (length_line i)

-- Where no document is left, the names line is: no proof here cites it; proofs of a host's own may.
pub text_none : (w : Window) (l p : ℕ) (ds : List Document) → p ≤ 0 → intervals_text (intervals_before w l (take p ds)) ≡ schedule_names
text_none w l p ds h = let z : p ≡ 0 = omega arith in ap (λ n. intervals_text (intervals_before w l (take n ds))) z
