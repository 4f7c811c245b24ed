-- What sending to both streams comes to.
use Rattle.std.proofs.Common.{◌≡◌, ◌<◌, ◌≤◌, true, false, ◌⊎◌, List, [], length, sym, refl, subst, arith}
use Rattle.std.proofs.lemmas.Bool.Decides.{nat_tests}
use Rattle.stacks.specs.declared.calls.Call.{Call}
use Rattle.stacks.specs.declared.calls.Reply.{Reply}
use Rattle.streams.specs.declared.stream.Stream.{Ghosts}
use Rattle.stacks.specs.Calls.{PromptRun}
use Rattle.stacks.specs.Sendings.{Served, room}
use Rattle.stacks.specs.Promise.{Promise}
use Rattle.stacks.proofs.Promised.{promise}

pub some_room : (calls : List Call) (replies others : List Reply) → length calls ≤ length replies → length calls ≤ length others → room calls replies others ≡ true
some_room calls replies others h k = grind (arith, nat_tests)

pub no_room : (calls : List Call) (replies others : List Reply) → (length replies < length calls) ⊎ (length others < length calls) → room calls replies others ≡ false
no_room calls replies others h = grind (arith, nat_tests)

pub record Delivered {X Y : Type 0} (D : Ghosts X) (B : Ghosts Y) (calls : List Call) (stack stack' : X) (held replies : List Reply) (second second' : Y) (held₂ others : List Reply) : Type 0 where
  pub first : Served D calls stack stack' held replies
  pub other : Served B calls second second' held₂ others
  pub promised : Promise D B calls stack stack' replies second second' others

pub deliver : {X Y : Type 0} (D : Ghosts X) (B : Ghosts Y) (calls heard : List Call) (stack stack' : X) (held replies : List Reply) (second second' : Y) (held₂ others : List Reply)
    → heard ≡ calls → PromptRun (D.parts stack) calls → Served D calls stack stack' held replies → Served B calls second second' held₂ others
    → Delivered D B heard stack stack' held replies second second' held₂ others
deliver D B calls heard stack stack' held replies second second' held₂ others e prompt s s₂ =
    subst (λ (cs : List Call). Delivered D B cs stack stack' held replies second second' held₂ others) (sym e)
    (record { first = s; other = s₂; promised = promise D B calls stack stack' held replies second second' held₂ others prompt s s₂ })

-- sending nothing
pub nothing : {X : Type 0} (S : Ghosts X) (s : X) (held : List Reply) → Served S [] s s held held
nothing S s held = record { book = refl; answers = refl; rest = refl; nodes = refl; bare = refl }
