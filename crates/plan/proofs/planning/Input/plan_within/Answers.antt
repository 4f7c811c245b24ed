use Rattle.std.proofs.Common.{refl, arith}
use Rattle.plan.proofs.Whole.{table_empty, plan-refused, plan-wrote}
use Rattle.plan.proofs.planning.Input.plan_within.Goals as goal

pub returns-then-out-length : goal.returns-then-out-length
returns-then-out-length c =
    let t = c.over-table.ensures in
    let e = table_empty _ _ 256 _ _ t.used t.moment t.records c.blank_records-records.ensures (omega arith) in
    let m = c.measure-begin.ensures in
    record {
      text = plan-refused c.args.window 256 c.args.self.bytes.now c.args.out.now c.args.self.short _ _ _ e m.begins m.ends c.if-out-length.true;
      fits = λ h. absurd (omega (arith, m.bound, c.if-out-length.true));
    }

pub returns : goal.returns
returns c =
    let t = c.over-table.ensures in
    let e = table_empty _ _ 256 _ _ t.used t.moment t.records c.blank_records-records.ensures (omega arith) in
    let u = c.over-table-2.ensures in
    let f = table_empty _ _ 256 _ _ u.used u.moment u.records c.blank_records-records-2.ensures (omega arith) in
    let m = c.measure-begin.ensures in
    record {
      text = plan-wrote c.args.window 256 c.args.self.bytes.now c.args.out.now c.args.self.short _ _ _ _ _ e f m.begins m.ends c.if-out-length.false c.write.ensures;
      fits = λ _. refl;
    }
