-- Blank lines between the others say nothing.
use Rattle.std.proofs.Common.{◌≡◌, ◌≤◌, true, List, [], ◌∷◌, ◌++◌, length, sym, refl, ap, ◌∙◌, arith}
use Rattle.std.proofs.lemmas.List.{append_assoc, append-nil}
use Rattle.std.proofs.lemmas.Bool.{cond-true, cond_both}
use Rattle.scripts.specs.Lines.{ScriptLine, is_blank, skip_blank_of, after_text}
use Rattle.replay.specs.Readings.{read_entries_of}

module _ {A : Type 0} (F : List ScriptLine → A) (blank : (l : ScriptLine) (ls : List ScriptLine) → is_blank l ≡ true → F (l ∷ ls) ≡ F ls) where
  pub skips : (ls : List ScriptLine) → F (skip_blank_of ls) ≡ F ls
  skips [] = refl
  skips (l ∷ ls) = cond_both (is_blank l) (skip_blank_of ls) (l ∷ ls) (λ (xs : List ScriptLine). F xs ≡ F (l ∷ ls)) (λ h. skips ls ∙ sym (blank l ls h)) (λ _. refl)

  -- the lines from the next one that is not blank
  pub skipped : (ls xs : List ScriptLine) → xs ≡ skip_blank_of ls → F ls ≡ F xs
  skipped ls xs e = sym (skips ls) ∙ ap F (sym e)

pub few_skipped : (ls : List ScriptLine) → length (skip_blank_of ls) ≤ length ls
few_skipped [] = omega arith
few_skipped (l ∷ ls) = cond_both (is_blank l) (skip_blank_of ls) (l ∷ ls) (λ (xs : List ScriptLine). length xs ≤ length (l ∷ ls)) (λ _. omega (arith, few_skipped ls)) (λ _. omega arith)

pub few_after : (ls : List ScriptLine) → length (after_text ls) ≤ length ls
few_after [] = omega arith
few_after (l ∷ ls) = cond_both (is_blank l) ls (after_text ls) (λ (xs : List ScriptLine). length xs ≤ length (l ∷ ls)) (λ _. omega arith) (λ _. omega (arith, few_after ls))

pub entries_blank : (l : ScriptLine) (ls : List ScriptLine) → is_blank l ≡ true → read_entries_of (l ∷ ls) ≡ read_entries_of ls
entries_blank l ls h = cond-true (is_blank l) _ _ h

-- the entries from the next line on
pub entries_next : (ls xs : List ScriptLine) → xs ≡ skip_blank_of ls → read_entries_of ls ≡ read_entries_of xs
entries_next ls xs e = skipped read_entries_of entries_blank ls xs e

-- one more at the end of what was read, or no more
pub read_more : {A : Type 0} (xs xs' ys ys' zs : List A) (x : A) → xs' ≡ xs ++ x ∷ [] → ys ≡ x ∷ ys' → xs ++ ys ≡ zs → xs' ++ ys' ≡ zs
read_more xs xs' ys ys' zs x e f h = ap (λ us. us ++ ys') e ∙ append_assoc xs (x ∷ []) ys' ∙ sym (ap (λ us. xs ++ us) f) ∙ h

pub read_all : {A : Type 0} (xs ys zs : List A) → ys ≡ [] → xs ++ ys ≡ zs → xs ≡ zs
read_all xs ys zs e h = sym (append-nil xs) ∙ sym (ap (λ us. xs ++ us) e) ∙ h
