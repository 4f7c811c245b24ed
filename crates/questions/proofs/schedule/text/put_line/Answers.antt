use Rattle.times.proofs.Puts.{put_then}
use Rattle.questions.proofs.schedule.text.put_line.Goals as goal

pub returns : goal.returns
returns c =
    let b = put_then _ _ _ _ _ c.put_byte.ensures c.put_number.ensures in
    let d = put_then _ _ _ _ _ (put_then _ _ _ _ _ b c.put_byte-2.ensures) c.put_time.ensures in
    let f = put_then _ _ _ _ _ (put_then _ _ _ _ _ d c.put_byte-3.ensures) c.put_time-2.ensures in
    put_then _ _ _ _ _ (put_then _ _ _ _ _ f c.put_byte-4.ensures) c.put_number-2.ensures
