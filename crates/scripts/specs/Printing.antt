-- The printed line of a reply.
use Rattle.std.specs.Prelude.{ℕ, Bool, cond, List, [], ◌∷◌, ◌++◌, Some, None, codes, decimal, Option}
use Rattle.questions.specs.Asking.{Answer, done, refused, not_handed_in, does_not_take, active, interval}

-- a question's mark, and the line's end
abbrev pub mark_text : Bool → List ℕ
mark_text settled = cond settled (codes "settled" ++ (10 ∷ [])) (codes "open" ++ (10 ∷ []))

-- a call that was not refused; a hand-in has four numbers
abbrev pub done_text : Bool → List ℕ
done_text handed = cond handed (codes "0,0,0,0" ++ (10 ∷ [])) (codes "0" ++ (10 ∷ []))

-- the active number and its content, or none
abbrev pub shown_text : Option (ℕ × ℕ) → Bool → List ℕ
shown_text None settled = codes "none," ++ mark_text settled
shown_text (Some x) settled = decimal x.0 ++ (44 ∷ (decimal x.1 ++ (44 ∷ mark_text settled)))

-- both times of an interval
abbrev pub lasts_text : ℕ → ℕ → Bool → List ℕ
lasts_text begin end settled = decimal begin ++ (44 ∷ (decimal end ++ (44 ∷ mark_text settled)))

-- the answer to a call, which was a hand-in or not, and the line's end
abbrev pub answer_text : Bool → Answer → List ℕ
answer_text handed done = done_text handed
answer_text handed (refused n) = decimal n ++ (10 ∷ [])
answer_text handed (not_handed_in n line byte cause) = decimal n ++ (44 ∷ (decimal line ++ (44 ∷ (decimal byte ++ (44 ∷ (decimal cause ++ (10 ∷ [])))))))
answer_text handed does_not_take = 10 ∷ []
answer_text handed (active shown settled) = shown_text shown settled
answer_text handed (interval begin end settled) = lasts_text begin end settled

-- the line of the k-th call
abbrev pub reply_text : ℕ → Bool → Answer → List ℕ
reply_text k handed answer = decimal k ++ (44 ∷ answer_text handed answer)

-- a line of a word and a number
abbrev pub word_text : List ℕ → ℕ → List ℕ
word_text word n = word ++ (44 ∷ (decimal n ++ (10 ∷ [])))

-- the line of the k-th node: 0, or the number of its refusal
abbrev pub node_text : ℕ → ℕ → List ℕ
node_text k n = word_text (decimal k) n

-- the number of the line that ended the reading
abbrev pub unreadable_text : ℕ → List ℕ
unreadable_text n = word_text (codes "unreadable") n
