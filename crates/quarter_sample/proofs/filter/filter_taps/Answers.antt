-- Each arm is its fraction.
use Rattle.std.proofs.Common.{◌≡◌, length, arith}
use Rattle.quarter_sample.proofs.Lines.{at_quarter, at_half, at_three_quarters}
use Rattle.quarter_sample.proofs.filter.filter_taps.Goals as goal

pub returns-in-1 : goal.returns-in-1
returns-in-1 c =
    let a = c.args in
    at_quarter a.rc a.max (length a.out.now) a.t0.now a.t1.now a.t2.now a.t3.now a.t4.now a.t5.now a.t6.now a.t7.now c.in-1.is c.near_taps.ensures

pub returns-in-2 : goal.returns-in-2
returns-in-2 c =
    let a = c.args in
    at_half a.rc a.max (length a.out.now) a.t0.now a.t1.now a.t2.now a.t3.now a.t4.now a.t5.now a.t6.now a.t7.now c.in-2.is c.half_taps.ensures

pub returns-in_default : goal.returns-in_default
returns-in_default c =
    let a = c.args in
    let e : a.fraction ≡ 3 = omega arith in
    at_three_quarters a.rc a.max (length a.out.now) a.t0.now a.t1.now a.t2.now a.t3.now a.t4.now a.t5.now a.t6.now a.t7.now e c.near_taps-in_default.ensures
