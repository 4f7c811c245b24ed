-- The nodes of a script, put on one another.
use Rattle.std.proofs.Common.{◌≡◌, ℕ, ◌+◌, ◌<◌, ◌≤◌, Bool, true, false, cond, ltb, leb, List, [], ◌∷◌, ◌++◌, length, Some, None, Ok, Err, Option, Result, MatchOption, ok_or, sym, refl, ap, ◌∙◌, ap₂, arith}
use Rattle.std.proofs.lemmas.Bool.{cond-true, cond-false, lt-ltb, le-ltb}
use Rattle.std.proofs.lemmas.List.{append_assoc}
use Rattle.streams.specs.Streams.{Parts}
use Rattle.times.specs.Refusals.{refusal_number}
use Rattle.streams.specs.Stacks.{Delay, approved, stack}
use Rattle.nodes.specs.declared.delay.pile.Node.{Node}
use Rattle.nodes.specs.declared.delay.pile.Nodes.{Nodes}
use Rattle.nodes.specs.Approvals as approvals
use Rattle.nodes.specs.Approvals.{Approval, approval_of}
use Rattle.nodes.specs.Piles.{delay_of, standing, pile_parts, pile_nodes, pile_stacked}
use Rattle.scripts.specs.declared.lines.Line.{Line}
use Rattle.scripts.specs.Lines.{ScriptLine, is_blank, skip_blank_of}
use Rattle.scripts.specs.Commands.{command_of}
use Rattle.scripts.specs.Left.{line_of, lines_left}
use Rattle.times.specs.declared.refusal.Refusal.{Refusal}
use Rattle.times.specs.Refusals.{number_of}
use Rattle.replay.specs.declared.running.NotPut.{NotPut}
use Rattle.replay.specs.declared.running.NotPut.TheVariants.{Refused, NoNode}
use Rattle.replay.specs.Readings.{NodeLines, node_in, answering, with_approval, with_node, delays_of, read_nodes_of}
use Rattle.replay.specs.Walks.{waiting, Putting, puts, refuses, nothing, told_node, judged_as, putting_of, with_put}
use Rattle.replay.specs.declared.reading.Reading.{Reading}
use Rattle.replay.proofs.Skips.{skipped}
use Rattle.replay.proofs.Waiting.{in_hand, hand_shown}

length_pile : (ns : List Node) (ks : List Delay) → length (pile_nodes ns ks) ≡ length ns + length ks
length_pile [] ks = omega arith
length_pile (n ∷ ns) ks = omega (arith, length_pile ns (delay_of n ∷ ks))

pile_push : (ns : List Node) (n : Node) (ks : List Delay) → pile_nodes (ns ++ n ∷ []) ks ≡ delay_of n ∷ pile_nodes ns ks
pile_push [] n ks = refl
pile_push (m ∷ ns) n ks = pile_push ns n (delay_of m ∷ ks)

approval_amount : (t a b : ℕ) → approvals.approved b ≡ approval_of t a → b ≡ a
approval_amount t a b e = step (leb a 600000) (leb (t + a) 4800000) e
  where
    step : (x y : Bool) → approvals.approved b ≡ cond x (cond y (approvals.approved a) (approvals.refused 13)) (approvals.refused 12) → b ≡ a
    step true true q = cc
    step true false q = cc
    step false y q = cc

-- what a line asks for, once it was judged
judged : (total : ℕ) (d : Option Delay) (k : Delay) (v : Approval) → d ≡ Some k → v ≡ approval_of total (approved k) → putting_of total d ≡ judged_as v k
judged total d k v e f = ap (putting_of total) e ∙ ap (λ (x : Approval). judged_as x k) (sym f)

pub node_refused : (total : ℕ) (d : Option Delay) (k : Delay) (x : Result Node NotPut) (y : NotPut) (r : Refusal) → d ≡ Some k → approvals.refused (number_of r) ≡ approval_of total (approved k) → x ≡ Err y → y ≡ Refused r
    → told_node x ≡ putting_of total d
node_refused total d k x y r e f g h = ap told_node (g ∙ ap Err h) ∙ sym (judged total d k (approvals.refused (number_of r)) e f)

-- an approved amount is the one that was asked for
pub node_stands : (total : ℕ) (d : Option Delay) (make : ℕ → Delay) (a b : ℕ) → d ≡ Some (make a) → approved (make a) ≡ a → approvals.approved b ≡ approval_of total (approved (make a))
    → puts (make b) ≡ putting_of total d
node_stands total d make a b e g f =
    ap (λ (i : ℕ). puts (make i)) (approval_amount total (approved (make a)) b f ∙ g) ∙ sym (judged total d (make a) (approvals.approved b) e f)

abbrev with_asked : Putting → List Delay → List ScriptLine → (List Delay → NodeLines) → NodeLines
with_asked (puts k) ks here more = cond (ltb (length ks) 8) (answering 0 (more (k ∷ ks))) (record { replies = []; standing = ks; rest = here })
with_asked (refuses n) ks here more = answering n (more ks)
with_asked nothing ks here more = record { replies = []; standing = ks; rest = here }

module _ (here : List ScriptLine) (more : List Delay → NodeLines) where
  asked_as : (v : Approval) (k : Delay) (ks : List Delay) → with_approval v k ks here more ≡ with_asked (judged_as v k) ks here more
  asked_as (approvals.refused n) k ks = refl
  asked_as (approvals.approved a) k ks = refl

  asked : (p : Parts) (d : Option Delay) (ks : List Delay) → with_node p d ks here more ≡ with_asked (putting_of (stack ks p).total d) ks here more
  asked p None ks = refl
  asked p (Some k) ks = asked_as (approval_of (stack ks p).total (approved k)) k ks

  not_put : (why : NotPut) (ks : List Delay) → with_asked (told_node (Err why)) ks here more ≡ with_put (Err why) ks here more
  not_put (Refused e) ks = refl
  not_put NoNode ks = refl

  put : (n : Node) (s : Nodes) (o : Option Nodes) → MatchOption o (8 ≤ length (standing s)) (λ s'. (length (standing s) < 8) × (standing s' ≡ standing s ++ n ∷ []))
      → with_asked (puts (delay_of n)) (delays_of s) here more ≡ with_put (ok_or o NoNode) (delays_of s) here more
  put n s None full = cond-false (ltb (length (delays_of s)) 8) _ _ (le-ltb (length (delays_of s)) 8 (omega (arith, full, length_pile (standing s) [])))
  put n s (Some s') has =
      cond-true (ltb (length (delays_of s)) 8) _ _ (lt-ltb (length (delays_of s)) 8 (omega (arith, has.0, length_pile (standing s) [])))
      ∙ ap (λ (ks : List Delay). answering 0 (more ks)) (sym (ap (λ (ns : List Node). pile_nodes ns []) has.1 ∙ pile_push (standing s) n []))

  module _ (p q : Parts) (s : Nodes) (d : Option Delay) (e : q ≡ pile_parts (standing s) p) where
    -- what was judged over the pile was judged over its nodes
    over : (v : Putting) → v ≡ putting_of q.total d → with_node p d (delays_of s) here more ≡ with_asked v (delays_of s) here more
    over v f =
        asked p d (delays_of s)
        ∙ ap (λ (x : Parts). with_asked (putting_of x.total d) (delays_of s) here more) (sym (e ∙ pile_stacked (standing s) [] p p refl))
        ∙ ap (λ (x : Putting). with_asked x (delays_of s) here more) (sym f)

    pub put_none : (why : NotPut) (x : Result Nodes NotPut) (y : NotPut) → told_node (Err why) ≡ putting_of q.total d → x ≡ Err y → y ≡ why → with_node p d (delays_of s) here more ≡ with_put x (delays_of s) here more
    put_none why x y f g h = over (told_node (Err why)) f ∙ not_put why (delays_of s) ∙ ap (λ (v : Result Nodes NotPut). with_put v (delays_of s) here more) (sym (g ∙ ap Err h))

    pub put_over : (n : Node) (o : Option Nodes) (x : Result Nodes NotPut) → puts (delay_of n) ≡ putting_of q.total d
        → MatchOption o (8 ≤ length (standing s)) (λ s'. (length (standing s) < 8) × (standing s' ≡ standing s ++ n ∷ [])) → x ≡ ok_or o NoNode
        → with_node p d (delays_of s) here more ≡ with_put x (delays_of s) here more
    put_over n o x f has g = over (puts (delay_of n)) f ∙ put n s o has ∙ ap (λ (v : Result Nodes NotPut). with_put v (delays_of s) here more) (sym g)

-- what a line answered: the nodes then, and the refusal, if there was one
module _ (ks : List Delay) (here : List ScriptLine) (more : List Delay → NodeLines) (r : Result Nodes NotPut) (s' : Nodes) (o : Option Refusal) where
  pub stands : (x : Nodes) → r ≡ Ok x → s' ≡ x → o ≡ None → with_put r ks here more ≡ answering (refusal_number o) (more (delays_of s'))
  stands x a b d =
      ap (λ (v : Result Nodes NotPut). with_put v ks here more) a
      ∙ ap₂ (λ (v : Option Refusal) (s : Nodes). answering (refusal_number v) (more (delays_of s))) (sym d) (sym b)

  pub left_out : (s : Nodes) (e : Refusal) → r ≡ Err (Refused e) → s' ≡ s → o ≡ Some e → ks ≡ delays_of s → with_put r ks here more ≡ answering (refusal_number o) (more (delays_of s'))
  left_out s e a b d k =
      ap (λ (v : Result Nodes NotPut). with_put v ks here more) a
      ∙ ap (λ (js : List Delay). answering (number_of e) (more js)) k
      ∙ ap₂ (λ (v : Option Refusal) (t : Nodes). answering (refusal_number v) (more (delays_of t))) (sym d) (sym b)

module _ (bare : Parts) where
  pub nodes-blank : (ks : List Delay) (l : ScriptLine) (ls : List ScriptLine) → is_blank l ≡ true → read_nodes_of bare ks (l ∷ ls) ≡ read_nodes_of bare ks ls
  nodes-blank ks l ls h = cond-true (is_blank l) _ _ h

  -- the line in hand is a node's, or it ends the nodes
  pub next-node : (r : Reading) (line : Line) (ks : List Delay) (p : Result Nodes NotPut) → r.line ≡ Some line
      → ((here : List ScriptLine) (more : List Delay → NodeLines) → with_node bare (node_in (command_of (line_of line))) ks here more ≡ with_put p ks here more)
      → read_nodes_of bare ks (waiting r) ≡ with_put p ks (line_of line ∷ lines_left r.script) (λ js. read_nodes_of bare js (lines_left r.script))
  next-node r line ks p e w =
      let ls : List ScriptLine = lines_left r.script in
      ap (read_nodes_of bare ks) (in_hand r line e)
      ∙ cond-false (is_blank (line_of line)) _ _ (hand_shown r line e)
      ∙ w (line_of line ∷ ls) (λ js. read_nodes_of bare js ls)

  -- the nodes from the next line on
  pub nodes-next : (ks : List Delay) (ls xs : List ScriptLine) → xs ≡ skip_blank_of ls → read_nodes_of bare ks ls ≡ read_nodes_of bare ks xs
  nodes-next ks ls xs e = skipped (read_nodes_of bare ks) (nodes-blank ks) ls xs e

-- one line more is written
pub written_more : (w w' line lines rest whole : List ℕ) → w' ≡ w ++ line → lines ≡ line ++ rest → w ++ lines ≡ whole → w' ++ rest ≡ whole
written_more w w' line lines rest whole e f h = ap (λ (xs : List ℕ). xs ++ rest) e ∙ append_assoc w line rest ∙ sym (ap (λ (xs : List ℕ). w ++ xs) f) ∙ h

-- what is written under a heading
pub headed : (w w' head lines : List ℕ) → w' ≡ w ++ head → w' ++ lines ≡ w ++ (head ++ lines)
headed w w' head lines e = ap (λ (xs : List ℕ). xs ++ lines) e ∙ append_assoc w head lines
