-- Each word has its part of the range.
use Rattle.std.proofs.Common.{◌≡◌, ℕ, ◌+◌, ◌*◌, ◌&&◌, ltb, rules}
use Rattle.kinds.specs.Sets.{between}
use Rattle.kinds.specs.Masks.{marks}
use Rattle.kinds.specs.Wides.{blank}
use Rattle.kinds.proofs.Words.{from_fn_each, from_words}
use Rattle.kinds.proofs.wide.WideSetKind.range.Goals as goal

pub returns : goal.returns
returns c = record {
  members = from_words _ (between c.args.lo c.args.hi)
      (from_fn_each _ _ (λ k m. (u : ℕ) → marks m u ≡ (between c.args.lo c.args.hi (k * 64 + u) && ltb u 64))
      (λ i y q h. (search rules, search rules)) _ 1024 blank c.from_fn.ensures.items);
}
