use Rattle.wgr_prog.proofs.OrderingLemmas.{has_carried}
use Rattle.wgr_prog.proofs.order_lines.carry_out.Goals as goal

pub returns-in-Ok-carried : goal.returns-in-Ok-carried
returns-in-Ok-carried g c =
    let (ends, carried, written, status) = c.in-Ok-carried.ensures.carried in
    record {
      ends = ends;
      carried = has_carried _ _ c.close_office-closed.result c.in-Ok.office c.carry_out_text-carried.new.office _ ends c.in-Ok.ensures.open c.close_office-closed.ensures c.carry_out_text-carried.ensures.clean carried;
      written = written;
      status_is = status;
      sound = c.in-Ok-carried.ensures.sound;
    }

pub returns-in-Err-carried : goal.returns-in-Err-carried
returns-in-Err-carried g c =
    let (taken, rest, ends, parted, carried, cut) = c.in-Err-carried.ensures.cut in
    record {
      taken = taken;
      rest = rest;
      ends = ends;
      parted = parted;
      carried = has_carried _ _ c.close_office-closed.result c.in-Ok.office c.carry_out_text-carried.new.office taken ends c.in-Ok.ensures.open c.close_office-closed.ensures c.carry_out_text-carried.ensures.clean carried;
      cut = cut;
      failed = c.in-Err-carried.ensures.failed;
    }
