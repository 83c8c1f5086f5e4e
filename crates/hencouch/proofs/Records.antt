-- The answer of an entry that searches and codes, laid out in areas. Assumes nothing.
use Prim.Native.Nat.{ℕ}
use mathlib.Core.Path.{◌≡◌, ap, ◌∙◌}
use Rattle.refusal.specs.Reply.{Reply, done, written}
use Rattle.refusal.specs.Number.{code_of}
use Rattle.macroblock.specs.Request.{Request}
use Rattle.macroblock.specs.Answer.{Answer, answer_by, record_of}
use Rattle.areas.specs.Whole.{RecordAreas, record_areas_of}
use Rattle.refusal.proofs.Replies.{code_of_answer, written_answer}

-- a is the answer by a reply, r the reply's number, and new what its record leaves of the areas that held old
pub record_laid_out : (reply : Reply) (q : Request) (a : Answer) (r : ℕ) (new old : RecordAreas)
    → a ≡ answer_by reply q → r ≡ code_of a.coded → new ≡ written a.coded record_areas_of old
    → (r ≡ code_of reply) × (a.areas ≡ (answer_by reply q).areas) × (new ≡ done reply (record_areas_of (record_of q)) old)
unfolding answer_by
record_laid_out reply q a r new old e p w = (
  p ∙ ap (λ (x : Answer). code_of x.coded) e ∙ code_of_answer reply (record_of q),
  ap (λ (x : Answer). x.areas) e,
  w ∙ ap (λ (x : Answer). written x.coded record_areas_of old) e ∙ written_answer reply (record_of q) record_areas_of old,
)
