-- What a writer leaves that puts a text right before a place of an output.
use Rattle.times.specs.declared.put.BackWriter.{BackWriter}
use Rattle.std.specs.Prelude.{◌≡◌, ℕ, ◌-◌, min, List, ◌++◌, length, take, drop}

-- the last n of a list, or all of a shorter one
abbrev pub last_of : ℕ → List ℕ → List ℕ
last_of n xs = drop (length xs - n) xs

-- how many bytes of an output stand before a place
abbrev pub room : ℕ → List ℕ → ℕ
room end out = min end (length out)

-- the output with the last bytes of a text, as many as there is room for, right before a place
abbrev pub put_before : ℕ → List ℕ → List ℕ → List ℕ
put_before end text out = take (room end out - length text) out ++ (last_of (room end out) text ++ drop end out)

-- what a writer does that puts a text: where the text then begins, what the output holds, and that it is still the
-- output that was lent
pub record Puts (text : List ℕ) (before after : BackWriter) : Type 0 where
  pub begins : after.end ≡ room before.end before.out.now - length text
  pub holds : after.out.now ≡ put_before before.end text before.out.now
  pub lender : after.out.ghost_name ≡ before.out.ghost_name
