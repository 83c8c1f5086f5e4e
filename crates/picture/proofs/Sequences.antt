-- A run's totals are the sums over the records given, whatever calls were made. Assumes nothing.
use Rattle.std.proofs.Common.{◌≡◌, ℕ, ◌+◌, ◌*◌, ◌%◌, ◌^◌, ◌<◌, ◌≤◌, List, [], ◌∷◌, length, sym, refl, ap, ◌∙◌, add-zero, add_assoc, mod-lt, mod-eq_of_lt, zero-add, arith}
use native.Mathlib.Nat.{mod-add-mod}
use Rattle.basis.proofs.Bounds.{product_le}
use Rattle.std.specs.Prelude.{Result, Ok, Err}
use Rattle.refusal.specs.declared.Refusal.{Refusal}
use Rattle.refusal.specs.Reply.{Reply, done, written, value_or}
use Rattle.record.specs.declared.Record.{Record}
use Rattle.record.specs.Count.{events_in}
use Rattle.record.specs.Zero.{no_record}
use Rattle.plane.specs.declared.SourceSize.{SourceSize}
use Rattle.plane.specs.Source.{macroblocks_of, source_side_reply}
use Rattle.plane.proofs.ReadySource.{sides_are}
use Rattle.reader.specs.Handed.{Areas}
use Rattle.macroblock.specs.Answer.{Answer, answer_of}
use Rattle.macroblock.specs.Predicted.{predicted_answer_of}
use Rattle.picture.specs.declared.Run.{Run}
use Rattle.picture.specs.Run.{macroblocks_in, fresh_run, run_reply, after, unless_run, step_answer, step_of, predicted_step_answer, predicted_step_of}
use Rattle.picture.specs.Calls.{Call, Step, StepPredicted, Close, asked, predicted_asked, run_after, records_given, events_over, sums_over, InTypes, Totalled}
use Rattle.picture.proofs.Places.{let_through}

-- ---- a run whose numbers lie in their types, and which counts no more macroblocks than cover its picture

record Fitting (r : Run) : Type 0 where
  pub whole : macroblocks_in r.size < 2 ^ 64
  pub few : r.macroblocks ≤ macroblocks_in r.size
  pub events : r.events < 2 ^ 64
  pub sums : r.sums < 2 ^ 64

-- the count of one macroblock more does not wrap
count_more : (r : Run) → Fitting r → r.macroblocks < macroblocks_in r.size → (r.macroblocks + 1) % 2 ^ 64 ≡ r.macroblocks + 1
count_more r f h = mod-eq_of_lt (omega (arith, f.whole))

fitting_more : (r : Run) (m : Record) → Fitting r → r.macroblocks < macroblocks_in r.size → Fitting (after r m)
fitting_more r m f h =
    record { whole = f.whole; few = omega (arith, count_more r f h); events = mod-lt _ (omega arith); sums = mod-lt _ (omega arith) }

-- ---- what a run holds after calls, of what it held and what it was given

record Adds (r r' : Run) (ms : List Record) : Type 0 where
  pub size : r'.size ≡ r.size
  pub few : r.macroblocks + length ms ≤ macroblocks_in r.size
  pub macroblocks : r'.macroblocks ≡ r.macroblocks + length ms
  pub events : r'.events ≡ (r.events + events_over ms) % 2 ^ 64
  pub sums : r'.sums ≡ (r.sums + sums_over ms) % 2 ^ 64

adds_none : (r : Run) → Fitting r → Adds r r []
adds_none r f =
    record {
      size = refl;
      few = omega (arith, f.few);
      macroblocks = sym (add-zero r.macroblocks);
      events = sym (ap (λ (n : ℕ). n % 2 ^ 64) (add-zero r.events) ∙ mod-eq_of_lt f.events);
      sums = sym (ap (λ (n : ℕ). n % 2 ^ 64) (add-zero r.sums) ∙ mod-eq_of_lt f.sums);
    }

-- wrapped once or twice
wrap_add : (x a b n : ℕ) → ((x + a) % n + b) % n ≡ (x + (a + b)) % n
wrap_add x a b n = mod-add-mod (x + a) n b ∙ ap (λ (m : ℕ). m % n) (add_assoc x a b)

-- with one record before the others
adds_more : (r r' : Run) (ms : List Record) (m : Record) → Fitting r → r.macroblocks < macroblocks_in r.size
    → Adds (after r m) r' ms → Adds r r' (m ∷ ms)
adds_more r r' ms m f h a =
    record {
      size = a.size;
      few = omega (arith, a.few, count_more r f h);
      macroblocks = omega (arith, a.macroblocks, count_more r f h);
      events = a.events ∙ wrap_add r.events (events_in m.counts) (events_over ms) (2 ^ 64);
      sums = a.sums ∙ wrap_add r.sums m.sum (sums_over ms) (2 ^ 64);
    }

-- ---- any sequence of calls

-- a step gives a record only where the run let it through
run_done : (w : Reply) (a : Answer) (old : Areas) (m : Record) → (unless_run w a old).coded ≡ Ok m → w ≡ Ok tt
run_done (Ok _) a old m e = refl
run_done (Err why) a old m e = absurd (let z : ◌≡◌ {A = ℕ} 0 1 = cc in omega arith)

step_left : (r : Run) (size : SourceSize) (a : Answer) (old : Areas) (m : Record) → (unless_run (run_reply r size) a old).coded ≡ Ok m
    → r.macroblocks < macroblocks_in r.size
step_left r size a old m e = (let_through r size (run_done (run_reply r size) a old m e)).left

-- one step more, by what is answered
abbrev run_by : Run → Result Record Refusal → Run
run_by r w = done w (after r (value_or w no_record)) r

adds_step : (r : Run) (cs : List Call) (w : Result Record Refusal) → Fitting r
    → ((m : Record) → w ≡ Ok m → r.macroblocks < macroblocks_in r.size)
    → ((n : Run) → Fitting n → Adds n (run_after n cs) (records_given n cs))
    → Adds r (run_after (run_by r w) cs) (written w (λ m. m ∷ records_given (run_by r w) cs) (records_given (run_by r w) cs))
adds_step r cs (Ok m) f h more = adds_more r _ _ m f (h m refl) (more (after r m) (fitting_more r m f (h m refl)))
adds_step r cs (Err why) f h more = more r f

adds : (cs : List Call) (r : Run) → Fitting r → Adds r (run_after r cs) (records_given r cs)
unfolding step_of predicted_step_of
adds [] r f = adds_none r f
adds (Step q ∷ cs) r f =
    adds_step r cs (step_answer r (asked r q)).coded f (step_left r q.size (answer_of (asked r q)) q.areas) (adds cs)
adds (StepPredicted n ∷ cs) r f =
    adds_step r cs (predicted_step_answer r (predicted_asked r n)).coded f
    (step_left r n.size (predicted_answer_of (predicted_asked r n)) n.areas) (adds cs)
adds (Close ∷ cs) r f = adds cs r f

-- ---- from an opening on nothing wraps

events_small : (ms : List Record) → InTypes ms → events_over ms ≤ 1530 * length ms
events_small [] t = omega arith
events_small (m ∷ ms) t = let l = events_small ms t.1 in omega arith

sums_small : (ms : List Record) → InTypes ms → sums_over ms ≤ 4294967295 * length ms
sums_small [] t = omega arith
sums_small (m ∷ ms) t = let l = sums_small ms t.1 in omega arith

covered_by : (s : SourceSize) → source_side_reply s ≡ Ok tt → macroblocks_in s ≤ 65536
covered_by s e =
    let w : macroblocks_of s.width ≤ 256 = omega (arith, (sides_are s e).high_w) in
    let h : macroblocks_of s.height ≤ 256 = omega (arith, (sides_are s e).high_h) in
    product_le w h

-- For the reader: THE LAW
pub totalled : (s : SourceSize) → source_side_reply s ≡ Ok tt → (cs : List Call) → InTypes (records_given (fresh_run s) cs) → Totalled s cs
totalled s e cs t =
    let ms = records_given (fresh_run s) cs in
    let most = covered_by s e in
    let a = adds cs (fresh_run s) (record { whole = omega arith; few = omega arith; events = omega arith; sums = omega arith }) in
    let n : length ms ≤ 65536 = omega (arith, a.few) in
    record {
      size_kept = a.size;
      counted = a.macroblocks ∙ zero-add (length ms);
      events_sum = a.events ∙ mod-eq_of_lt (omega (arith, events_small ms t)) ∙ zero-add (events_over ms);
      sums_sum = a.sums ∙ mod-eq_of_lt (omega (arith, sums_small ms t)) ∙ zero-add (sums_over ms);
    }
