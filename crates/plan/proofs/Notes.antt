-- One refused piece more.
use Rattle.std.proofs.Common.{◌≡◌, ℕ, ◌+◌, ◌-◌, ◌≤◌, List, [], ◌∷◌, ◌++◌, length, take, drop, decimal, sym, refl, ap, ◌∙◌, subst, ap₂, arith}
use Rattle.std.proofs.lemmas.List.{append_assoc, append-nil, length-append, take-append-drop, drop-drop}
use Rattle.times.specs.declared.put.BackWriter.{BackWriter}
use Rattle.times.specs.Put.{put_before, Puts}
use Rattle.times.proofs.Puts.{put_then, put_middle, put_back}
use Rattle.fields.specs.Parts.{Part}
use Rattle.times.specs.Refusals.{number_of}
use Rattle.fields.specs.Faults.{Told, cause_number_of}
use Rattle.fields.specs.declared.fault.Rejection.{Rejection}
use Rattle.streams.specs.Streams.{Parts}
use Rattle.streams.specs.Handing.{hand_in_told, hand_in_after}
use Rattle.plan.specs.Plans.{handed_in_of, refusal_text, refusals_text}
use Rattle.plan.specs.Lines.{rejection_fields, rejection_text, rejection_length}

pub length-rejection : (k : ℕ) (r : Rejection) → length (rejection_text k r) ≡ rejection_length k r
length-rejection k r = simp length-append (omega arith)

-- a line that is put where it ends
pub record Noted (at next : ℕ) (text out out' : List ℕ) : Type 0 where
  pub front : next ≤ length out → take next out' ≡ take at out ++ text
  pub back : drop next out' ≡ drop next out

pub noted : (at next : ℕ) (text out out' : List ℕ) → next ≡ at + length text → out' ≡ put_before next text out → Noted at next text out out'
noted at next text out out' e p = record {
  front = λ h. ap (take next) p ∙ put_middle at next text out e h;
  back = ap (drop next) p ∙ put_back next text out;
}

pub run_more : (p p' : Parts) (x : Part) (xs ys : List Part) → xs ≡ x ∷ ys → p' ≡ hand_in_after p x.bytes → handed_in_of p' ys ≡ handed_in_of p xs
run_more p p' x xs ys e f = ap (λ (v : Parts). handed_in_of v ys) f ∙ sym (ap (handed_in_of p) e)

pub text_more : (k : ℕ) (p p' : Parts) (x : Part) (xs ys : List Part) (t : Told (Unit {0})) → xs ≡ x ∷ ys → p' ≡ hand_in_after p x.bytes → t ≡ hand_in_told p x.bytes
    → refusals_text k p xs ≡ refusal_text k t ++ refusals_text (k + 1) p' ys
text_more k p p' x xs ys t e f a =
    ap (refusals_text k p) e ∙ ap₂ (λ (u : Told (Unit {0})) (v : Parts). refusal_text k u ++ refusals_text (k + 1) v ys) (sym a) (sym f)

-- the loop over the pieces: what is noted so far, and what is still to come
pub record Noting (from at k : ℕ) (p : Parts) (xs : List Part) (out whole out₀ : List ℕ) : Type 0 where
  pub next : at + length (refusals_text k p xs) ≡ from + length whole
  pub front : from + length whole ≤ length out₀ → take at out ++ refusals_text k p xs ≡ take from out₀ ++ whole
  pub back : drop at out ≡ drop at out₀

pub noting_start : (from : ℕ) (p : Parts) (xs ys : List Part) (out : List ℕ) → xs ≡ ys → Noting from from 1 p xs out (refusals_text 1 p ys) out
noting_start from p xs ys out e =
    let f = ap (refusals_text 1 p) e in
    record { next = ap (λ (t : List ℕ). from + length t) f; front = λ _. ap (λ (t : List ℕ). take from out ++ t) f; back = refl }

pub noting_more : (from at next k : ℕ) (p p' : Parts) (xs ys : List Part) (text out out' whole out₀ : List ℕ) → refusals_text k p xs ≡ text ++ refusals_text (k + 1) p' ys
    → next ≡ at + length text → length out ≡ length out₀ → (next ≤ length out → take next out' ≡ take at out ++ text) → drop next out' ≡ drop next out
    → Noting from at k p xs out whole out₀ → Noting from next (k + 1) p' ys out' whole out₀
noting_more from at next k p p' xs ys text out out' whole out₀ e n l f b h =
    let rest : List ℕ = refusals_text (k + 1) p' ys in
    let s : length (refusals_text k p xs) ≡ length text + length rest = ap length e ∙ length-append text rest in
    let d : at + (next - at) ≡ next = omega arith in
    record {
      next = omega (arith, h.next);
      front = λ r.
          ap (λ (t : List ℕ). t ++ rest) (f (omega (arith, h.next)))
          ∙ append_assoc (take at out) text rest
          ∙ ap (λ (t : List ℕ). take at out ++ t) (sym e)
          ∙ h.front r;
      back =
          b ∙ sym (ap (λ j. drop j out) d) ∙ sym (drop-drop (next - at) at out) ∙ ap (drop (next - at)) h.back ∙ drop-drop (next - at) at out₀ ∙ ap (λ j. drop j out₀) d;
    }

pub record Noteds (from end : ℕ) (whole out out₀ : List ℕ) : Type 0 where
  pub ends : end ≡ from + length whole
  pub holds : end ≤ length out₀ → out ≡ take from out₀ ++ (whole ++ drop end out₀)

pub noting_all : (from at k : ℕ) (p : Parts) (xs : List Part) (out whole out₀ : List ℕ) → xs ≡ [] → Noting from at k p xs out whole out₀ → Noteds from at whole out out₀
noting_all from at k p xs out whole out₀ e h =
    let z : refusals_text k p xs ≡ [] = ap (refusals_text k p) e in
    let s : length (refusals_text k p xs) ≡ 0 = ap length z in
    record {
      ends = omega (arith, h.next);
      holds = λ r.
          sym (take-append-drop at out)
          ∙ ap₂ (λ (x y : List ℕ). x ++ y) (sym (append-nil (take at out)) ∙ ap (λ (t : List ℕ). take at out ++ t) (sym z) ∙ h.front (omega (arith, h.next))) h.back
          ∙ append_assoc (take from out₀) whole (drop at out₀);
    }

pub field_then : (n b : ℕ) (text : List ℕ) (w w' w'' : BackWriter) → Puts text w w' → Puts (decimal n ++ (b ∷ [])) w' w'' → Puts (decimal n ++ (b ∷ text)) w w''
field_then n b text w w' w'' p q =
    subst (λ (t : List ℕ). Puts t w w'') (append_assoc (decimal n) (b ∷ []) text) (put_then (decimal n ++ (b ∷ [])) text w w' w'' p q)

-- the four numbers of a refusal, from the last to the first
pub four_puts : (why : Rejection) (n x : ℕ) (o a b c d : BackWriter) → n ≡ number_of why.refusal → x ≡ cause_number_of why.cause
    → Puts (decimal x ++ (10 ∷ [])) o a → Puts (decimal why.byte ++ (44 ∷ [])) a b → Puts (decimal why.line ++ (44 ∷ [])) b c
    → Puts (decimal n ++ (44 ∷ [])) c d → Puts (rejection_fields why) o d
four_puts why n x o a b c d en ex pa pb pc pd =
    let qa = subst (λ j. Puts (decimal j ++ (10 ∷ [])) o a) ex pa in
    let qd = subst (λ j. Puts (decimal j ++ (44 ∷ [])) c d) en pd in
    let qc = field_then why.line 44 _ o b c (field_then why.byte 44 _ o a b qa pb) pc in
    field_then (number_of why.refusal) 44 _ o c d qc qd

-- the five numbers of a line: those four, and the piece's count in front
pub line_puts : (why : Rejection) (k n x : ℕ) (o a b c d e : BackWriter) → n ≡ number_of why.refusal → x ≡ cause_number_of why.cause
    → Puts (decimal x ++ (10 ∷ [])) o a → Puts (decimal why.byte ++ (44 ∷ [])) a b → Puts (decimal why.line ++ (44 ∷ [])) b c
    → Puts (decimal n ++ (44 ∷ [])) c d → Puts (decimal k ++ (44 ∷ [])) d e → Puts (rejection_text k why) o e
line_puts why k n x o a b c d e en ex pa pb pc pd pe =
    field_then k 44 _ o d e (four_puts why n x o a b c d en ex pa pb pc pd) pe
