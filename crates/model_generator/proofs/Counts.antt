-- How many procedures and steps the generated theory has.
use Rattle.std.proofs.Common.{◌≡◌, ◌∙◌, refl, ap, ℕ, zero, suc, ◌+◌, ◌*◌, length, arith}
use Rattle.model_files.specs.FileLimits.{step_count}
use Rattle.model_generator.specs.Generated.{makers}

pub so_many_makers : (first n : ℕ) → length (makers first n) ≡ n
so_many_makers first zero = refl
so_many_makers first (suc n) = ap suc (so_many_makers (first + 1) n)

pub so_many_steps : (first n : ℕ) → step_count (makers first n) ≡ 8 * n
so_many_steps first zero = refl
so_many_steps first (suc n) = ap (λ m. 8 + m) (so_many_steps (first + 1) n) ∙ omega arith
