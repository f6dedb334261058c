use Rattle.std.proofs.Common.{◌≤◌, ◌^◌, ℕ, arith}
use Rattle.std.proofs.Math.Nat.{pow-le-pow_right}
use Rattle.session_file.proofs.number.digits.Goals as goal

below_ten : (i : ℕ) → i ≤ 8 → 10 ^ i ≤ 100000000
below_ten i h = pow-le-pow_right (omega arith) h

pub overflow_mul-value : goal.overflow_mul-value
overflow_mul-value c = omega (arith, below_ten c.loop-b.b-index (omega arith))

pub overflow_add-value : goal.overflow_add-value
overflow_add-value c = omega (arith, below_ten c.loop-b.b-index (omega arith), c.in_ok-value.ensures.value.0, c.in_ok-value.ensures.value.1)
