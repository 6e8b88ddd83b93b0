-- The four frauds are excluded, and every board that meets demand 3 behaves as ours: the paper's own cases show each fraud up.
use mathlib.Core.List.{List, [], ◌∷◌, ◌++◌}
use mathlib.Core.Path.{◌≡◌, refl, sym, ap, subst, ◌∙◌}
use Prim.Native.Nat.{ℕ}
use native.Mathlib.Omega.{arith}
use lib.ListN.{length, drop, get_or}
use Rattle.message.specs.Sample.{sample, sample_text}
use Rattle.message.specs.declared.Record.{Record}
use Rattle.grammar.specs.Bulletins.{acceptance}
use Rattle.grammar.specs.Reads.{read_of}
use Rattle.grammar.specs.declared.Reply.{Reply}
use Rattle.cases.specs.Samples.{cancelling, later_saying}
use Rattle.cases.proofs.Readings.{sample-read, cancellation-read}
use Rattle.pens.specs.declared.Written.{Written}
use Rattle.places.specs.declared.Place.{Place}
use Rattle.pens.specs.Outcomes.{Wrote}
use Rattle.promises.specs.Calls.{History, Run, Happens}
use Rattle.promises.specs.Calls.Call.{posted, listed}
use Rattle.promises.specs.Calls.Run.{begun, then-posted, then-listed}
use Rattle.promises.specs.InForce.{IsListing, ListAnswered}
use Rattle.listing.specs.Listings.{listing}
use Rattle.promises.specs.Demand2.{Says}
use Rattle.promises.specs.Demand3.{Demand3}
use Rattle.promises.specs.Frauds.{MeetsDemand2, RefusesEverything, OneFixedRecord, FraudsExcluded}
use Rattle.promises.specs.Starred.{hex, in_pairs, page}
use Rattle.promises.proofs.Histories.{may-begin, demand-3}
use Rattle.promises.proofs.Contracts.{may_read, demand-2}
use Rattle.promises.proofs.Listing.{one_end, forced-formed, one-listing}
use Rattle.promises.proofs.StarredLaws.{sample_place, cancelled_place, board_at, sample_record, sample-posted, sample-cancelled, listed-meanwhile, listed-cancelled}

-- Readers.

says : (bulletin : List ℕ) (r : Record) → read_of bulletin ≡ acceptance r → Says bulletin r
says bulletin r e =
    subst (Says bulletin) (ap (λ (p : Reply). p.message) e) (demand-2.takes-only bulletin (read_of bulletin) (may_read bulletin) (ap (λ (p : Reply). p.number) e))

-- whoever meets demand 2 reads what the paper's reader reads, as the same record
module _ {Reads : List ℕ → Reply → Type 0} {Writes : Record → List ℕ → Written → List ℕ → Type 0} (m : MeetsDemand2 Reads Writes) (bulletin : List ℕ) (r : Record) (e : read_of bulletin ≡ acceptance r) where
  reply-is : (m.replies bulletin).0 ≡ acceptance r
  reply-is = m.demand.takes_all bulletin (m.replies bulletin).0 (m.replies bulletin).1 r (says bulletin r e)

  refuses-not : RefusesEverything Reads → ⊥
  refuses-not f = f bulletin (m.replies bulletin).0 (m.replies bulletin).1 (ap (λ (p : Reply). p.number) reply-is)

  fixed-so : (x : Record) → OneFixedRecord Reads x → r ≡ x
  fixed-so x f =
      sym (ap (λ (p : Reply). p.message) reply-is) ∙ f bulletin (m.replies bulletin).0 (m.replies bulletin).1 (ap (λ (p : Reply). p.number) reply-is)

-- the sample's sequence is 1 and that of its cancellation 2
two_records : sample ≡ cancelling → ⊥
unfolding sample
two_records e = absurd (omega (arith, ap (λ (r : Record). r.line.sequence.number) e))

-- Boards.

-- what can happen with one board that meets demand 3 can happen with any other that does
follows : {A B : History → Type 0} → Demand3 A → Demand3 B → (h : History) → A h → B h
follows a b [] x = b.begins
follows {A} {B} a b (posted clock r answer ∷ h) x =
    let y = b.post-answered h (follows a b h (a.earlier (posted clock r answer) h x)) clock r in
    let same : answer ≡ y.0 = (a.turned-away h clock r answer x y.0).1 ((b.turned-away h clock r y.0 y.1 y.0).0 refl) in
    subst (λ (n : ℕ). B (posted clock r n ∷ h)) (sym same) y.1
follows {A} {B} a b (listed time buffer answer count after ∷ h) x =
    let y = b.listing-answered h (follows a b h (a.earlier (listed time buffer answer count after) h x)) time buffer in
    let same =
    one_end (λ n. forced-formed) (record { number = answer; count = count; buffer = after }) (record { number = y.0; count = y.1; buffer = y.2 })
    (a.lists h time buffer answer count after x) (b.lists h time buffer y.0 y.1 y.2 y.3) in
    subst (λ (t : Wrote). B (listed time buffer t.number t.count t.buffer ∷ h)) (sym same) y.3

-- The paper's cases as histories.

abbrev after_sample : History
after_sample = posted 12648030 sample 0 ∷ []

abbrev after_cancellation : History
after_cancellation = posted 12648180 cancelling 0 ∷ after_sample

run-sample : Run after_sample (board_at sample_place 12648030)
run-sample = then-posted (begun may-begin) (record { lent = tt; allowed = sym sample-posted })

run-cancellation : Run after_cancellation (board_at cancelled_place 12648180)
run-cancellation = then-posted run-sample (record { lent = tt; allowed = sym sample-cancelled })

-- the listings of 12,648,180, before the cancellation and after it
abbrev with_it : List ℕ
with_it = hex "01" ++ (hex "00C0FEF4" ++ sample_record)

abbrev without_it : List ℕ
without_it = (hex "01" ++ hex "00C0FEF4") ++ drop 5 (page 22)

lists-it : Happens (listed 12648180 (page 22) 0 22 with_it ∷ after_sample)
unfolding in_pairs
lists-it = record { board = board_at sample_place 12648030; run = then-listed run-sample (record { lent = ([], tt); address = (0, 0); name = 0; allowed = sym listed-meanwhile }) }

lists-it-not : Happens (listed 12648180 (page 22) 0 5 without_it ∷ after_cancellation)
unfolding in_pairs
lists-it-not = record { board = board_at cancelled_place 12648180; run = then-listed run-cancellation (record { lent = ([], tt); address = (0, 0); name = 0; allowed = sym listed-cancelled }) }

-- the byte after the time is the sample's kind, or a byte that was not written
two-listings : with_it ≡ without_it → ⊥
unfolding in_pairs
two-listings e = absurd (omega (arith, ap (λ (x : List ℕ). get_or x 5 0) e))

counted : {h : History} {time count : ℕ} {buffer after : List ℕ} → ListAnswered h time buffer 0 count after → (rows : List Place) → IsListing h time rows → count ≡ length (listing time rows)
counted {time = time} x rows i = let w = x.whole refl in w.counted ∙ ap (λ (v : List Place). length (listing time v)) (one-listing w.listed i)

pub frauds-excluded : FraudsExcluded
frauds-excluded =
    record {
      refuses-everything = λ Reads Writes m f. refuses-not m sample_text sample sample-read f;
      one-fixed-record =
          λ Reads Writes m r f.
          two_records (fixed-so m sample_text sample sample-read r f ∙ sym (fixed-so m (later_saying "QBBB NORTH SOUND FIR CNL SIGMET 1 180830/181230=") cancelling cancellation-read r f));
      refuses-every-post = λ Can d f. f [] 12648030 sample (follows demand-3 d after_sample (record { board = board_at sample_place 12648030; run = run-sample }));
      does-nothing =
          λ Can d f. absurd (omega (arith, f after_sample 12648180 (page 22) 22 with_it (follows demand-3 d (listed 12648180 (page 22) 0 22 with_it ∷ after_sample) lists-it)));
      obeys-the-first-only =
          λ Can d f.
          two-listings (f 12648030 12648180 sample cancelling 0 12648180 (page 22) 22 5 with_it without_it
          (follows demand-3 d (listed 12648180 (page 22) 0 22 with_it ∷ after_sample) lists-it)
          (follows demand-3 d (listed 12648180 (page 22) 0 5 without_it ∷ after_cancellation) lists-it-not));
      made-up-count = λ Can d h time buffer count after c. counted (d.lists h time buffer 0 count after c);
      no-other-board = λ Can d h. (follows d demand-3 h, follows demand-3 d h);
    }
