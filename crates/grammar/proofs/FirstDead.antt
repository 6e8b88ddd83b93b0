-- Theorems c and d. The first dead word and its number: where a run is refused, the words before begin an accepted message and with this
-- word they begin none; the number is that of the greatest part that may come next. And the converse.
use mathlib.Core.Bool.{true}
use mathlib.Core.List.{List, [], ◌∷◌, ◌++◌, append-nil, map-append}
use mathlib.Core.Path.{◌≡◌, refl, ap, sym, subst, ◌∙◌}
use Prim.Native.Nat.{ℕ, ◌≤◌}
use native.Mathlib.Omega.{arith}
use lib.ListN.{length, length-map}
use Rattle.words.specs.Words.{Word, bytes_of}
use Rattle.message.specs.Records.{good}
use Rattle.message.specs.declared.Record.{Record}
use Rattle.grammar.specs.Judged.{message_words, Begins, ComesNext, JudgedAs, RefusedAt}
use Rattle.grammar.specs.Numbers.{number_of}
use Rattle.grammar.specs.Parts.{Marked, marked, message_parts}
use Rattle.grammar.specs.Runs.{advance, walk, run}
use Rattle.grammar.specs.Runs.Ran.{refused}
use Rattle.grammar.specs.States.{State, Move}
use Rattle.grammar.specs.States.Move.{goes, done, dead}
use Rattle.grammar.specs.States.State.{at_designator}
use Rattle.grammar.specs.Steps.{step}
use Rattle.grammar.proofs.Invariant.{Ok, mark}
use Rattle.grammar.proofs.Marks.{unmarked, message-words, marks_of, mark_at, marks-words, marks-append, start, start-kept, kept-ok, accepted-good, accepted-parts, accepted-words}
use Rattle.grammar.proofs.Moves.{Fine, Next, walk-append}
use Rattle.grammar.proofs.NumberLaws.{mark-most}
use Rattle.grammar.proofs.RunLaws.{Alive, Breaks, walk-dead, dead-done, dead_not, breaks-run}
use Rattle.grammar.proofs.RunLaws.Alive.{going, over}

-- two lists parted at one length have the same rest
rest-same : {A : Type 0} (xs ys us vs : List A) → length xs ≡ length ys → xs ++ us ≡ ys ++ vs → us ≡ vs
rest-same [] [] us vs l e = e
rest-same [] (z ∷ ys) us vs l e = absurd (omega arith)
rest-same (z ∷ xs) [] us vs l e = absurd (omega arith)
rest-same (z ∷ xs) (t ∷ ys) us vs l e = rest-same xs ys us vs (omega arith) (let q : xs ++ us ≡ ys ++ vs = cc in q)

-- the rest of a message: the walk goes on over its words to that record, and gives them their parts
pub record Rest (m : Move) (message : Record) (left : List Marked) : Type 0 where
  pub walked : walk m (unmarked left) ≡ done message
  pub marks : left ≡ marks_of m (unmarked left)

-- facts of the section laws: what each word owes, that every state is live, and that the words of a good record are accepted
module _
    (sound : (s : State) (w : List ℕ) → Ok s → Fine s w (step s w))
    (next : (s : State) → Ok s → Next s)
    (forth : (r : Record) → good r ≡ true → walk (start) (message_words r) ≡ done r)
  where
    -- where a walk is in a state, that state is sound
    pub reached : (ws : List (List ℕ)) (s : State) → walk start ws ≡ goes s → Ok s
    reached ws s e = kept-ok (rw e at (start-kept sound ws))

    -- Begins: the walk is alive.

    begun-alive : (ws : List (List ℕ)) (m : Move) → walk (start) ws ≡ m → Begins ws → Alive m
    begun-alive ws (goes s) e b = going
    begun-alive ws (done r) e b = over
    begun-alive ws dead e b =
        let f : walk (start) (ws ++ b.rest) ≡ done b.message = rw b.words (forth b.message b.is_good) in
        absurd (dead-done b.message (sym f ∙ (walk-append (start) ws b.rest ∙ rw e (walk-dead b.rest))))

    -- the words of a walk that comes to an end, given a part of them
    begins-by : (ws rest : List (List ℕ)) (r : Record) → walk (start) (ws ++ rest) ≡ done r → Begins ws
    begins-by ws rest r e =
        record { message = r; is_good = accepted-good sound (ws ++ rest) r e; rest = rest; words = accepted-words sound (ws ++ rest) r e }

    -- the words that lead on from a state
    leads-on : (ws : List (List ℕ)) (s : State) → walk (start) ws ≡ goes s → (n : Next s) → walk (start) (ws ++ (n.word ∷ n.rest)) ≡ done n.message
    unfolding walk
    leads-on ws s e n = walk-append (start) ws (n.word ∷ n.rest) ∙ rw e n.ends

    alive-begins : (ws : List (List ℕ)) (m : Move) → walk (start) ws ≡ m → Alive m → Begins ws
    alive-begins ws (goes s) e a =
        let n : Next s = next s (reached ws s e) in
        begins-by ws (n.word ∷ n.rest) n.message (leads-on ws s e n)
    alive-begins ws (done r) e a = begins-by ws [] r (rw (append-nil ws) e)
    alive-begins ws dead e a = elim a [ ]

    -- with a word that kills the walk they begin no message, and with any other they do
    walk-one-more : (ws : List (List ℕ)) (w : List ℕ) → walk (start) (ws ++ (w ∷ [])) ≡ advance (walk (start) ws) w
    unfolding walk
    walk-one-more ws w = walk-append (start) ws (w ∷ [])

    killed : (ws : List (List ℕ)) (w : List ℕ) → advance (walk (start) ws) w ≡ dead → Begins (ws ++ (w ∷ [])) → ⊥
    killed ws w d b = dead_not dead refl (begun-alive (ws ++ (w ∷ [])) dead (walk-one-more ws w ∙ d) b)

    kills : (ws : List (List ℕ)) (w : List ℕ) (m : Move) → advance (walk (start) ws) w ≡ m → (Begins (ws ++ (w ∷ [])) → ⊥) → m ≡ dead
    kills ws w (goes s) e f = absurd (f (alive-begins (ws ++ (w ∷ [])) (goes s) (walk-one-more ws w ∙ e) going))
    kills ws w (done r) e f = absurd (f (alive-begins (ws ++ (w ∷ [])) (done r) (walk-one-more ws w ∙ e) over))
    kills ws w dead e f = refl

    -- The number.

    -- what is left of an accepted message behind these words
    pub rest_of : (ws : List (List ℕ)) (r : Record) → good r ≡ true → (seen left : List Marked) → seen ++ left ≡ message_parts r → unmarked seen ≡ ws → Rest (walk start ws) r left
    rest_of ws r g seen left parts words =
        let after : List (List ℕ) = unmarked left in
        let split : ws ++ after ≡ message_words r =
        ap (λ (vs : List (List ℕ)). vs ++ after) (sym words) ∙ (sym (map-append (λ (m : Marked). m.word) seen left) ∙ (ap unmarked parts ∙ message-words r))
        in
        let walked : walk start (ws ++ after) ≡ done r = rw split (forth r g) in
        let marks : seen ++ left ≡ marks_of start ws ++ marks_of (walk start ws) after = parts ∙ (sym (accepted-parts sound (ws ++ after) r walked) ∙ marks-append start ws after) in
        let long : length seen ≡ length (marks_of start ws) =
        sym (length-map seen (λ (m : Marked). m.word)) ∙ (ap length (words ∙ sym (marks-words start ws)) ∙ length-map (marks_of start ws) (λ (m : Marked). m.word))
        in
        record {
          walked = sym (walk-append start ws after) ∙ walked;
          marks = rest-same seen (marks_of start ws) left (marks_of (walk start ws) after) long marks;
        }

    comes-rest : (ws : List (List ℕ)) (n : ℕ) (c : ComesNext ws n) → Rest (walk start ws) c.message (marked n c.word ∷ c.rest)
    comes-rest ws n c = rest_of ws c.message c.is_good c.before (marked n c.word ∷ c.rest) c.parts c.words

    -- what comes next after these words is a word that the state takes, with the part that the state gives it
    comes-mark : (ws : List (List ℕ)) (n : ℕ) (c : ComesNext ws n) → marked n c.word ≡ mark_at (walk start ws) c.word
    unfolding marks_of
    comes-mark ws n c =
        let same : marked n c.word ∷ c.rest ≡ mark_at (walk start ws) c.word ∷ marks_of (advance (walk start ws) c.word) (unmarked c.rest) = (comes-rest ws n c).marks in
        cc

    comes-some : (ws : List (List ℕ)) (s : State) → walk start ws ≡ goes s → ComesNext ws (number_of s)
    unfolding marks_of
    comes-some ws s e =
        let n : Next s = next s (reached ws s e) in
        let walked : walk start (ws ++ (n.word ∷ n.rest)) ≡ done n.message = leads-on ws s e n in
        let there : mark_at (walk start ws) n.word ≡ marked (number_of s) n.word = rw e (ap (λ (k : ℕ). marked k n.word) n.part) in
        record {
          message = n.message;
          is_good = accepted-good sound (ws ++ (n.word ∷ n.rest)) n.message walked;
          before = marks_of start ws;
          word = n.word;
          rest = marks_of (advance (walk start ws) n.word) n.rest;
          parts = ap (λ (m : Marked). marks_of start ws ++ (m ∷ marks_of (advance (walk start ws) n.word) n.rest)) (sym there) ∙ (sym (marks-append start ws (n.word ∷ n.rest)) ∙ accepted-parts sound (ws ++ (n.word ∷ n.rest)) n.message walked);
          words = marks-words start ws;
        }

    -- in a state, the number is that of the greatest part that may come next
    pub judged : (ws : List (List ℕ)) (s : State) → walk start ws ≡ goes s → JudgedAs ws (number_of s)
    judged ws s e = record {
      comes = comes-some ws s e;
      greatest = λ n c.
          let there : marked n c.word ≡ marked (mark s c.word) c.word = comes-mark ws n c ∙ rw e in
          rw (ap (λ (m : Marked). m.number) there) (mark-most s c.word);
    }

    -- Theorems c and d: a run breaks off at the first word that, with those before it, begins no accepted message, by the number of the part
    -- that the word is judged as.
    pub breaks-refused : (ws : List Word) (n p : ℕ) (b : Breaks at_designator ws n p) → RefusedAt ws n p (length b.word.bytes)
    breaks-refused ws n p b =
        let seen : List (List ℕ) = bytes_of b.before in
        let dies : advance (walk start seen) b.word.bytes ≡ dead = rw b.walked b.dies in
        record {
          before = b.before;
          word = b.word;
          rest = b.rest;
          split = b.split;
          there = b.there;
          as_long = refl;
          begins = alive-begins seen (goes b.state) b.walked going;
          ends = killed seen b.word.bytes dies;
          judged = subst (JudgedAs seen) (sym b.numbered) (judged seen b.state b.walked);
        }

    -- the words after which a word comes are in a state
    pub comes-going : (ws : List (List ℕ)) (n : ℕ) → ComesNext ws n → (r : Record) → walk start ws ≡ done r → ⊥
    unfolding walk
    comes-going ws n c r e =
        let on : walk (walk start ws) (c.word ∷ unmarked c.rest) ≡ done c.message = (comes-rest ws n c).walked in
        dead-done c.message (sym (rw e at on) ∙ walk-dead (unmarked c.rest))

    pub numbers-one : (ws : List (List ℕ)) (n : ℕ) (s : State) → walk start ws ≡ goes s → JudgedAs ws n → n ≡ number_of s
    numbers-one ws n s e j =
        let k : JudgedAs ws (number_of s) = judged ws s e in
        let up : n ≤ number_of s = k.greatest n j.comes in
        let down : number_of s ≤ n = j.greatest (number_of s) k.comes in
        omega arith

    -- a claim about the words before a refused one is a claim about a state
    pub before-refused : {A : Type 0} (ws : List Word) (n p long : ℕ) (r : RefusedAt ws n p long)
        → ((s : State) → walk start (bytes_of r.before) ≡ goes s → A) → A
    before-refused {A} ws n p long r claim = from (walk start (bytes_of r.before)) refl
      where
        from : (m : Move) → walk start (bytes_of r.before) ≡ m → A
        from (goes s) e = claim s e
        from (done q) e = absurd (comes-going (bytes_of r.before) n r.judged.comes q e)
        from dead e = absurd (dead_not dead refl (begun-alive (bytes_of r.before) dead e r.begins))

    -- the converse: wherever a word is the first such, the run is refused there by that number
    pub there-refused : (ws : List Word) (n p long : ℕ) → RefusedAt ws n p long → run at_designator ws ≡ refused n p
    there-refused ws n p long r = before-refused ws n p long r
        (λ s e.
        let seen : List (List ℕ) = bytes_of r.before in
        let dies : advance (walk start seen) r.word.bytes ≡ dead = kills seen r.word.bytes (advance (walk start seen) r.word.bytes) refl r.ends in
        rw (r.split, numbers-one seen n s e r.judged, ← r.there) (breaks-run at_designator s r.before r.word r.rest e (rw e at dies)))
