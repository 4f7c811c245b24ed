-- The promise of a stack, from its parts.
use Rattle.std.proofs.Common.{◌≡◌, ℕ, ◌+◌, ◌≤◌, List, sym, ap, ◌∙◌, subst, arith}
use Rattle.streams.specs.declared.stream.Stream.{Ghosts}
use Rattle.streams.specs.Streams.{Parts, Lawful}
use Rattle.streams.specs.Stacks.{Delay, stack}
use Rattle.questions.specs.Asking.{Answer, is_active, found, naming}
use Rattle.questions.proofs.Latest.{asked, shows_greatest, rising_orderly}
use Rattle.std.specs.Option.{option_map}
use Rattle.stacks.specs.declared.calls.Call.{Call}
use Rattle.stacks.specs.declared.calls.Reply.{Reply}
use Rattle.stacks.specs.Calls.{run, replies, PromptRun}
use Rattle.stacks.specs.Sendings.{Served, said}
use Rattle.stacks.specs.Promise.{Answers, Settles, Lasts, Moves, Alike, Promise, adjustments}
use Rattle.stacks.proofs.Growth.{settles, lasts}
use Rattle.stacks.proofs.Moving.{moves}
use Rattle.stacks.proofs.Following.{run_stacked, alike, total_run}

-- a
answers : (p : Parts) → Lawful p → Answers p
answers p law w t h =
    (option_map naming (found (is_active w p.shown t) p.shown), shows_greatest w t p.shown (rising_orderly (355199999 + p.total) 0 0 p.shown law.ordered), asked p w t h)

module _ (nodes : List Delay) (bare before : Parts) (calls : List Call) (is : before ≡ stack nodes bare) where
  after-stacked : run before calls ≡ stack nodes (run bare calls)
  after-stacked = ap (λ (p : Parts). run p calls) is ∙ run_stacked nodes calls bare

  moves-after : Lawful (run before calls) → Moves (adjustments nodes bare.total) (run before calls) (run bare calls)
  moves-after law =
      let p : Parts = run bare calls in
      let room : (stack nodes p).total ≤ 4800000 = omega (arith, law.capped, ap (λ (q : Parts). q.total) after-stacked) in
      subst (λ (q : Parts). Moves (adjustments nodes bare.total) q p) (sym after-stacked)
      (subst (λ (t : ℕ). Moves (adjustments nodes t) (stack nodes p) p) (total_run bare calls) (moves nodes p room))

  alike-after : Alike calls (replies before calls) (replies bare calls)
  alike-after = subst (λ (p : Parts). Alike calls (replies p calls) (replies bare calls)) (sym is) (alike nodes bare calls)

-- the promise, from what was served
pub promise : {X Y : Type 0} (D : Ghosts X) (B : Ghosts Y) (calls : List Call) (stack stack' : X) (held kept : List Reply) (second second' : Y) (held₂ others : List Reply)
    → PromptRun (D.parts stack) calls → Served D calls stack stack' held kept → Served B calls second second' held₂ others
    → Promise D B calls stack stack' kept second second' others
promise D B calls stack stack' held kept second second' held₂ others prompt s s₂ =
    let before : Parts = D.parts stack in
    let bare : Parts = D.bare stack in
    let nodes : List Delay = D.nodes stack in
    let p : D.parts stack' ≡ run (D.parts stack) calls = s.book in
    record {
      a = answers (D.parts stack') (D.lawful stack');
      b = subst (λ (q : Parts). Settles q calls (said calls kept)) (sym p) (subst (λ (rs : List Answer). Settles (run before calls) calls rs) (sym s.answers) (settles before calls prompt));
      lasts = subst (λ (q : Parts). Lasts before q) (sym p) (lasts before calls prompt);
      c = λ same.
          let q : B.parts second' ≡ run (D.bare stack) calls = s₂.book ∙ ap (λ (v : Parts). run v calls) same in
          let r : said calls others ≡ replies (D.bare stack) calls = s₂.answers ∙ ap (λ (v : Parts). replies v calls) same in (
            subst (λ (u : Parts). Moves (adjustments nodes bare.total) u (B.parts second')) (sym p)
                (subst (λ (u : Parts). Moves (adjustments nodes bare.total) (run before calls) u) (sym q)
                (moves-after nodes bare before calls (D.stacked stack) (subst (λ (u : Parts). Lawful u) p (D.lawful stack')))),
            subst (λ (u : List Answer). Alike calls u (said calls others)) (sym s.answers) (subst (λ (u : List Answer). Alike calls (replies before calls) u) (sym r) (alike-after nodes bare before calls (D.stacked stack))),
          );
    }
