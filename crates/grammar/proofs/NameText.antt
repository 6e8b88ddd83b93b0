-- Names, as an area and a mountain have them: the text of a name grows word by word, its record is good, and a good name is the record of
-- its own text.
use mathlib.Core.Bool.{Bool, true, false, not}
use mathlib.Core.List.{List, [], ◌∷◌, ◌++◌, append_assoc}
use mathlib.Core.Path.{◌≡◌, refl, ap, sym, ◌∙◌}
use Prim.Native.Nat.{ℕ, ◌-◌, ◌≤◌, ◌<◌}
use native.Mathlib.Nat.{not-suc-le-zero, le_trans, le_refl}
use native.Mathlib.Omega.{arith}
use lib.Dec.{leb}
use lib.ListN.{length, take, replicate, length-append, length-replicate, take-append-drop}
use lib.Seq.{length-take-le, take_at, drop_at}
use borrow.Author.Tests.{leb-true, le-leb, eq-eqb, ne_eqb, not-true}
use Rattle.lists.specs.Lists.{all_of, index_of, same}
use Rattle.lists.specs.Text.{bytes}
use Rattle.lists.proofs.Choice.{by, clash, both_left, both_right, both_true, both-false-left}
use Rattle.words.specs.Words.{plain_word, line}
use Rattle.figures.specs.Tables.{word_in, in_table}
use Rattle.names.specs.Names.{closing_words, closing_of, good_closing, name_word, closers, in_name, pieces, name_text}
use Rattle.names.proofs.NameLaws.{pieces-some, pieces-one, pieces-grow, line-pieces, name-some, name-one, name-grow, in-name-spaceless, pieces-plain}
use Rattle.message.specs.Limits.{name_bytes}
use Rattle.message.specs.Names.{zero_byte, unused_zero, good_name, empty_name, name_words}
use Rattle.message.specs.declared.Name.{Name}
use Rattle.message.proofs.Empties.{all_replicate, unused-told}
use Rattle.message.proofs.Goodness.{GoodName, name-parts}
use Rattle.grammar.specs.Records.{name_of}
use Rattle.grammar.specs.Runs.{walk}
use Rattle.grammar.specs.States.{State}
use Rattle.grammar.specs.States.Move.{goes}
use Rattle.grammar.specs.Steps.{grown, begun, gone_on, step}
use Rattle.grammar.proofs.Invariant.{NameOk}
use Rattle.grammar.proofs.Moves.{walk_step}

-- The text of a name grows.

module _ (m : Bool) (limit : ℕ) where
  -- the first word
  pub begun-name : (w : List ℕ) → begun m limit w ≡ true → NameOk m limit w
  begun-name w e = record {
    text = name-one m w (both_left (in_name m w) (leb (length w) limit) e);
    fits = leb-true (length w) limit (both_right (in_name m w) (leb (length w) limit) e);
  }

  pub begun-pieces : (w : List ℕ) → begun m limit w ≡ true → pieces w ≡ w ∷ []
  begun-pieces w e = pieces-one w (in-name-spaceless m w (both_left (in_name m w) (leb (length w) limit) e))

  -- one more
  pub grown-name : (t w : List ℕ) → NameOk m limit t → gone_on m limit t w ≡ true → NameOk m limit (grown t w)
  grown-name t w ok e = record {
    text = name-grow m t w ok.text (both_left _ _ e);
    fits = let short = both_right (in_name m w) _ e in omega (arith, leb-true);
  }

  pub grown-pieces : (t w : List ℕ) → gone_on m limit t w ≡ true → pieces (grown t w) ≡ pieces t ++ (w ∷ [])
  grown-pieces t w e = pieces-grow t w (in-name-spaceless m w (both_left (in_name m w) (leb (length (grown t w)) limit) e))

-- a word of an area's name does not close it, nor does one of a mountain's
pub open-area : (w : List ℕ) → in_name false w ≡ true → good_closing (closing_of w) ≡ false
open-area w e =
    let other : in_table closing_words (word_in closing_words w) ≡ false =
    not-true (in_table closing_words (word_in closing_words w)) (both_right (name_word w) (not (in_table closing_words (word_in closing_words w))) e) in
    rw other

pub open-mountain : (w : List ℕ) → in_name true w ≡ true → same w (bytes "PSN") ≡ false
unfolding index_of
open-mountain w e =
    let other : in_table (closers true) (word_in (closers true) w) ≡ false =
    not-true (in_table (closers true) (word_in (closers true) w)) (both_right (name_word w) (not (in_table (closers true) (word_in (closers true) w))) e) in
    by (same w (bytes "PSN")) (λ h. clash false (sym other ∙ rw h) refl) (λ h. h)

-- The record of a text.

pub name-words-of : (t : List ℕ) → name_words (name_of t) ≡ pieces t
name-words-of t = ap pieces (take_at t (replicate (name_bytes - length t) 0) (length t) refl)

unused-zero : (t : List ℕ) → length t ≤ name_bytes → unused_zero (name_of t) ≡ true
unused-zero t h =
    let rest : List ℕ = replicate (name_bytes - length t) 0 in
    let long : length (t ++ rest) ≡ name_bytes = length-append t rest ∙ rw length-replicate (omega arith) in
    both_true (eq-eqb (length (t ++ rest)) name_bytes long) (rw (drop_at t rest (length t) refl) (all_replicate zero_byte (name_bytes - length t) 0 refl))

pub name-of-good : (m : Bool) (limit : ℕ) (t : List ℕ) → NameOk m limit t → limit ≤ name_bytes → good_name m limit (name_of t) ≡ true
unfolding good_name
name-of-good m limit t ok h =
    both_true (both_true (le-leb 1 (length t) (name-some m t ok.text)) (le-leb (length t) limit ok.fits))
    (both_true (unused-zero t (le_trans ok.fits h)) (rw (take_at t (replicate (name_bytes - length t) 0) (length t) refl) ok.text))

-- a name with a text is not empty
pub name-of-some : (m : Bool) (limit : ℕ) (t : List ℕ) → NameOk m limit t → empty_name (name_of t) ≡ false
unfolding empty_name
name-of-some m limit t ok =
    let some : 0 < length t = name-some m t ok.text in
    both-false-left (unused_zero (name_of t)) (ne_eqb (length t) 0 (λ e. omega arith))

-- The text of a record.

-- a name whose bytes past its count are zero is the record of its text
module _ (n : Name) (u : unused_zero n ≡ true) where
  unused-count : n.count ≤ name_bytes → length (take n.count n.bytes) ≡ n.count
  unused-count h = length-take-le n.count n.bytes (rw (unused-told n u).long h)

  unused-is : n.count ≤ name_bytes → n ≡ name_of (take n.count n.bytes)
  unused-is h = λ i. record { bytes = text i; count = sym (unused-count h) i }
    where
      text : n.bytes ≡ take n.count n.bytes ++ replicate (name_bytes - length (take n.count n.bytes)) 0
      text = sym (take-append-drop n.count n.bytes) ∙ rw ((unused-told n u).rest, unused-count h)

module _ (m : Bool) (limit : ℕ) (h : limit ≤ name_bytes) (n : Name) (g : good_name m limit n ≡ true) where
  parts : GoodName m limit n
  parts = name-parts m limit n g

  -- a good name is the record of its own text
  pub good-name-is : n ≡ name_of (take n.count n.bytes)
  good-name-is = unused-is n parts.unused (le_trans parts.fits h)

  pub good-name-ok : NameOk m limit (take n.count n.bytes)
  good-name-ok = record { text = parts.text; fits = rw (unused-count n parts.unused (le_trans parts.fits h)) parts.fits }

  -- and it is not the empty one
  pub good-name-some : empty_name n ≡ false
  unfolding empty_name
  good-name-some = both-false-left (unused_zero n) (ne_eqb n.count 0 (λ e. omega (arith, parts.some)))

  pub good-name-plain : all_of plain_word (name_words n) ≡ true
  good-name-plain = pieces-plain m (take n.count n.bytes) parts.text

-- The words of a name, from a text on.

abbrev pub grown_all : List ℕ → List (List ℕ) → List ℕ
grown_all t [] = t
grown_all t (w ∷ ws) = grown_all (grown t w) ws

grown-more : (t : List ℕ) (ws : List (List ℕ)) → length t ≤ length (grown_all t ws)
grown-more t [] = le_refl (length t)
grown-more t (w ∷ ws) = le_trans (rw (length-append t (32 ∷ w)) (omega arith)) (grown-more (grown t w) ws)

grown-under : (t u : List ℕ) (ws : List (List ℕ)) → grown_all (grown t u) ws ≡ grown t (grown_all u ws)
grown-under t u [] = refl
grown-under t u (w ∷ ws) = rw (append_assoc t (32 ∷ u) (32 ∷ w)) (grown-under t (grown u w) ws)

grown-line : (w : List ℕ) (ws : List (List ℕ)) → grown_all w ws ≡ line (w ∷ ws)
unfolding line
grown-line w [] = refl
grown-line w (v ∷ ws) = grown-under w v ws ∙ ap (grown w) (grown-line v ws)

-- a state that takes the words of a name one by one
module _ (m : Bool) (limit : ℕ) (s : List ℕ → State) (on : (t w : List ℕ) → gone_on m limit t w ≡ true → step (s t) w ≡ goes (s (grown t w))) where
  forth-more : (t : List ℕ) (vs ws : List (List ℕ)) → all_of (in_name m) vs ≡ true → length (grown_all t vs) ≤ limit
      → walk (goes (s t)) (vs ++ ws) ≡ walk (goes (s (grown_all t vs))) ws
  unfolding all_of
  forth-more t [] ws a h = refl
  forth-more t (v ∷ vs) ws a h =
      let word : in_name m v ≡ true = both_left (in_name m v) (all_of (in_name m) vs) a in
      let fits : leb (length (grown t v)) limit ≡ true = le-leb (length (grown t v)) limit (le_trans (grown-more (grown t v) vs) h) in
      walk_step (s t) (s (grown t v)) v (vs ++ ws) (on t v (both_true word fits))
      ∙ forth-more (grown t v) vs ws (both_right (in_name m v) (all_of (in_name m) vs) a) h

  -- all words of a name, from a state that takes the first one
  pub forth-name : (s₀ : State) → ((w : List ℕ) → begun m limit w ≡ true → step s₀ w ≡ goes (s w)) → (t : List ℕ) (ws : List (List ℕ)) → NameOk m limit t
      → walk (goes s₀) (pieces t ++ ws) ≡ walk (goes (s t)) ws
  unfolding name_text all_of
  forth-name s₀ first t ws ok = go (pieces t) (pieces-some t) ok.text (line-pieces t)
    where
      go : (vs : List (List ℕ)) → 0 < length vs → all_of (in_name m) vs ≡ true → line vs ≡ t → walk (goes s₀) (vs ++ ws) ≡ walk (goes (s t)) ws
      go [] some a e = absurd (not-suc-le-zero some)
      go (v ∷ vs) some a e =
          let word : in_name m v ≡ true = both_left (in_name m v) (all_of (in_name m) vs) a in
          let whole : grown_all v vs ≡ t = grown-line v vs ∙ e in
          let all : length (grown_all v vs) ≤ limit = rw whole ok.fits in
          let fits : leb (length v) limit ≡ true = le-leb (length v) limit (le_trans (grown-more v vs) all) in
          walk_step s₀ (s v) v (vs ++ ws) (first v (both_true word fits))
          ∙ (forth-more v vs ws (both_right (in_name m v) (all_of (in_name m) vs) a) all ∙ ap (λ (u : List ℕ). walk (goes (s u)) ws) whole)
