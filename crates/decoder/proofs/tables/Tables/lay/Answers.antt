use Rattle.std.proofs.Common.{ℕ, ◌*◌, ◌^◌, ◌<◌, ◌≤◌, length, mul-le-mul_right, arith, pow_mono, rules}
use prog.Memory
use denote.Param
use Rattle.decoder.proofs.tables.Tables.lay.Goals as goal

-- the four turned samples take no more memory than the sums
small_offset : (s n z : ℕ) → s < 4 → 4 ≤ n → n * z < 2 ^ 63 → s * z < 2 ^ 63
small_offset s n z h k b =
    let less : s ≤ n = omega arith in
    let p : s * z ≤ n * z = mul-le-mul_right z less in omega arith

pub offset_bounds-turned-from : goal.offset_bounds-turned-from
offset_bounds-turned-from g c =
    let t = c.args.self.now in
    let s : c.from-in-loop-p.result < 4 = rw c.from-in-loop-p.ensures (t.small c.args.u c.loop-p.p) in
    let four : 2 ^ 2 ≤ 2 ^ t.degree = pow_mono t.two in
    let fits : length c.args.sums.now * prog.Memory.size (denote.Param.layout g.row.S) < 2 ^ 63 = search rules in
    let p = small_offset c.from-in-loop-p.result (length c.args.sums.now) (prog.Memory.size (denote.Param.layout g.row.S)) s (omega arith) fits in
    record { fits = omega arith }
