-- What a header that is not refused tells of its sides and of its planes, and that bytes which were not read decide nothing.
-- Assumes nothing.
use Prim.Native.Nat.{ℕ, ◌≤◌, ◌<◌}
use native.Mathlib.Omega.{arith}
use mathlib.Core.Bool.{◌&&◌, ◌||◌}
use mathlib.Core.List.{List}
use mathlib.Core.Path.{◌≡◌, refl, ap, subst}
use lib.Dec.{eqb, leb}
use borrow.Author.Tests.{lt-leb}
use Rattle.basis.proofs.Bounds.{product_le}
use Rattle.refusal.specs.declared.Refusal.TheVariants.{Fcode, Mode, SourceSide, Quantiser, Choice, Length}
use Rattle.refusal.specs.Reply.{Reply, answer}
use Rattle.std.specs.Prelude.{Ok, Err}
use Rattle.refusal.specs.Reply.{unless, done}
use Rattle.refusal.specs.Test.{between}
use Rattle.refusal.proofs.Replies.{unless-done, after}
use Rattle.refusal.proofs.Tests.{and_left, and_right, between-high}
use Rattle.clip.specs.declared.Head.{Head}
use Rattle.clip.specs.Header.{head_of, head_reply, header_reply, header_of}
use Rattle.clip.specs.Planes.{no_lengths, planes_of, plane_lengths_of}

-- the sides of a picture that is not refused
pub record Small (h : Head) : Type 0 where
  pub wide : h.width ≤ 176
  pub high : h.height ≤ 144

pub small : (h : Head) → head_reply h ≡ Ok tt → Small h
unfolding head_reply
small h e =
    let last = unless (eqb h.vectors 1 || eqb h.vectors 4) Choice (Ok tt) in
    let fourth = unless (between 1 31 h.quantiser) Quantiser last in
    let wide = between 1 176 h.width in
    let high = between 1 144 h.height in
    let third = unless (wide && high) SourceSide fourth in
    let modes = eqb h.mode 0 || eqb h.mode 1 in
    let sides = unless-done (wide && high) SourceSide fourth (after modes Mode third (after (between 1 7 h.fcode) Fcode (unless modes Mode third) e)) in
    record { wide = between-high 1 176 h.width (and_left wide high sides); high = between-high 1 144 h.height (and_right wide high sides) }

-- and its planes
pub luma_small : (h : Head) → Small h → (planes_of h).luma ≤ 25344
luma_small h s = product_le s.wide s.high

pub chroma_small : (h : Head) → Small h → (planes_of h).chroma ≤ 6336
chroma_small h s = product_le {m = 88} {n = 72} (omega (arith, s.wide)) (omega (arith, s.high))

-- the lengths that a reply leaves
pub announced : (h : Head) (r : Reply) → head_reply h ≡ r → plane_lengths_of h ≡ done r (planes_of h) no_lengths
unfolding plane_lengths_of
announced h r e = ap (λ (x : Reply). done x (planes_of h) no_lengths) e

-- For the reader: a header cut short is refused by 12, whatever stands in the bytes that were not read
pub cut_short : (s : List ℕ) (n : ℕ) → n < 8 → header_of s n ≡ Err Length
unfolding header_of
cut_short s n h = rw (lt-leb 8 n h)

answer_done : (r : Reply) (g h : Head) → answer r g ≡ Ok h → r ≡ Ok tt
answer_done (Ok _) g h e = refl
answer_done (Err why) g h e = absurd (cc)

answer_value : (r : Reply) (g h : Head) → answer r g ≡ Ok h → g ≡ h
answer_value (Ok _) g h e = cc
answer_value (Err why) g h e = absurd (cc)

-- a header that was read and is not refused is a whole one, and is judged so again
pub judged_again : (s : List ℕ) (n : ℕ) (h : Head) → header_of s n ≡ Ok h → head_reply h ≡ Ok tt
unfolding header_of
judged_again s n h e =
    let r = header_reply s n in
    subst (λ (x : Head). head_reply x ≡ Ok tt) (answer_value r (head_of s) h e)
    (after (leb 8 n) Length (head_reply (head_of s)) (answer_done r (head_of s) h e))
