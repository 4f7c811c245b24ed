use Rattle.std.proofs.Common.{◌≡◌, ℕ, ◌≤◌, List, length, None, codes, Option, sym, ap, subst, arith}
use Rattle.times.specs.Put.{Puts}
use Rattle.times.proofs.Puts.{put_then}
use Rattle.scripts.specs.Printing.{shown_text}
use Rattle.scripts.proofs.Columns.{few_front}
use Rattle.scripts.proofs.printing.put_shown.Goals as goal

pub returns-in-None : goal.returns-in-None
returns-in-None c =
    let a = c.put_mark.ensures in
    let e : shown_text None c.args.settled ≡ shown_text c.args.shown c.args.settled = ap (λ (o : Option (ℕ × ℕ)). shown_text o c.args.settled) (sym c.in-None.is) in
    let f : length (shown_text None c.args.settled) ≤ 13 = few_front (codes "none,") _ 5 8 (omega arith) a.few in
    record {
      puts = subst (λ (t : List ℕ). Puts t c.args.writer.now c.put_bytes.new.self) e (put_then _ _ _ _ _ a.puts c.put_bytes.ensures);
      few = subst (λ (t : List ℕ). length t ≤ 50) e (omega (arith, f));
    }
