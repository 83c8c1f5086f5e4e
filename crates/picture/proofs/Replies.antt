-- Whether a macroblock is left, and whether none is. Assumes nothing.
use Rattle.std.proofs.Common.{◌≡◌, ℕ, true, false, Bool, not, ltb, leb, refl, sym, ltb-true, ltb-false, le-leb}
use borrow.Author.Tests.{lt-leb}

pub none_is : (n all : ℕ) → not (ltb n all) ≡ leb all n
none_is n all = by (ltb n all) refl
  where
    by : (t : Bool) → ltb n all ≡ t → not t ≡ leb all n
    by true e = sym (lt-leb all n (ltb-true n all e))
    by false e = sym (le-leb all n (ltb-false n all e))
