-- The laws of names: the words that close one, the words it may have, and the text of it: what stands between the single spaces
-- of a text, joined by single spaces, is that text, and the other way.
use mathlib.Core.Bool.{Bool, true, false, not}
use mathlib.Core.List.{List, [], ◌∷◌, ◌++◌}
use mathlib.Core.Path.{◌≡◌, refl, ap, sym, ◌∙◌}
use Prim.Native.Nat.{ℕ, ◌-◌, ◌<◌, zero-le, suc-le-suc}
use native.Mathlib.Nat.{not-suc-le-zero}
use lib.Dec.{ltb, eqb, lit<}
use lib.ListN.{length, get_or}
use borrow.Author.Tests.{eqb-true, eqb-false, eq-eqb, ne_eqb, not-true}
use Rattle.lists.specs.Base.{worth_after}
use Rattle.std.specs.Prelude.{Some, None}
use Rattle.std.specs.Option.{is_some}
use Rattle.std.specs.List.{list_all, slice_split, onto_first}
use Rattle.lists.specs.Choice.{pick, both, found}
use Rattle.lists.specs.Lists.{index_of, all_of, same}
use Rattle.lists.specs.Text.{bytes}
use Rattle.lists.proofs.Choice.{by, clash, both-unit, both_left, both_right, both_true, either-cases}
use Rattle.lists.proofs.Lists.{all_append, all-weaken}
use Rattle.lists.proofs.Library.{all-list}
use Rattle.words.specs.Bytes.{letter, solid, allowed, plain}
use Rattle.words.specs.Words.{plain_word, line}
use Rattle.words.proofs.Words.{run-all}
use Rattle.figures.specs.Codes.{code_of}
use Rattle.figures.specs.Tables.{distinct, word_in, in_table, numbered}
use Rattle.figures.specs.Reads.{Reads}
use Rattle.figures.proofs.CodeLaws.{same_code}
use Rattle.figures.proofs.PlainLaws.{letter-plain, byte-solid}
use Rattle.figures.proofs.TableLaws.{number_found, number-coded, numbered-all, numbers-reads}
use Rattle.vocabulary.specs.Codes.{code-psn}
use Rattle.names.specs.Names.{closing_words, position_words, closing_of, good_closing, name_byte, name_word, closers, in_name, onto, pieces, name_text}

-- Closing words.

pub closing-reads : Reads closing_of (numbered 1 closing_words) good_closing 0
unfolding closing_words distinct all_of same
closing-reads = numbers-reads 1 closing_words (lit< tt) (lit< tt) refl

-- a word's code tells its number
pub closing_codes : (w : List ℕ) → found good_closing (closing_of w) ≡ pick (eqb (code_of w) 0x01464952) (Some 1) (pick (eqb (code_of w) 0x014649522f554952) (Some 2) (pick (eqb (code_of w) 0x01435441) (Some 3) None))
unfolding closing_words code_of worth_after all_of
closing_codes w = number-coded 1 closing_words w (lit< tt) refl

-- the code of a closing word tells it
pub area_closes : (w : List ℕ) → is_some (found good_closing (closing_of w)) ≡ in_table closing_words (word_in closing_words w)
area_closes w = rw (number_found 1 closing_words w (lit< tt)) (by (in_table closing_words (word_in closing_words w)) (λ e. rw e) (λ e. rw e))

pub mountain_closes : (w : List ℕ) → eqb (code_of w) code-psn ≡ in_table position_words (word_in position_words w)
unfolding index_of all_of code_of worth_after
mountain_closes w =
    let k : eqb (code_of w) code-psn ≡ same w (bytes "PSN") = same_code w (bytes "PSN") refl in
    by (same w (bytes "PSN")) (λ e. rw (k, e)) (λ e. rw (k, e))

-- Words of a name.

pub name_bytes : (w : List ℕ) → list_all name_byte w ≡ all_of name_byte w
name_bytes w = sym (all-list name_byte w)

-- What stands between the spaces of a text.

-- no byte of the word is a space
abbrev pub spaceless : List ℕ → Bool
spaceless w = all_of (λ (x : ℕ). not (eqb 32 x)) w

-- the test of `pieces` is that of `first_space`
pub space-swap : (x : ℕ) → eqb x 32 ≡ eqb 32 x
space-swap x = by (eqb 32 x) (λ e. eq-eqb x 32 (sym (eqb-true 32 x e)) ∙ sym e) (λ e. ne_eqb x 32 (λ q. eqb-false 32 x e (sym q)) ∙ sym e)

onto-some : (x : ℕ) (ws : List (List ℕ)) → 0 < length (onto x ws)
onto-some x [] = suc-le-suc zero-le
onto-some x (w ∷ ws) = suc-le-suc zero-le

pub pieces-some : (t : List ℕ) → 0 < length (pieces t)
unfolding pieces
pieces-some [] = suc-le-suc zero-le
pieces-some (x ∷ xs) = by (eqb x 32) (λ e. rw e (suc-le-suc zero-le)) (λ e. rw e (onto-some x (pieces xs)))

onto-append : (x : ℕ) (vs ws : List (List ℕ)) → 0 < length vs → onto x (vs ++ ws) ≡ onto x vs ++ ws
onto-append x [] ws h = absurd (not-suc-le-zero h)
onto-append x (v ∷ vs) ws h = refl

-- two texts joined by a space have the pieces of both
pub pieces-append : (t u : List ℕ) → pieces (t ++ (32 ∷ u)) ≡ pieces t ++ pieces u
unfolding pieces
pieces-append [] u = refl
pieces-append (x ∷ xs) u = by (eqb x 32)
    (λ e. rw (e, pieces-append xs u))
    (λ e. rw (e, pieces-append xs u) (onto-append x (pieces xs) (pieces u) (pieces-some xs)))

pub pieces-one : (w : List ℕ) → spaceless w ≡ true → pieces w ≡ w ∷ []
unfolding pieces all_of
pieces-one [] t = refl
pieces-one (x ∷ xs) t =
    let other : eqb x 32 ≡ false = space-swap x ∙ not-true (eqb 32 x) (both_left (not (eqb 32 x)) (spaceless xs) t) in
    rw (other, pieces-one xs (both_right (not (eqb 32 x)) (spaceless xs) t))

-- a text grown by a word
pub pieces-grow : (t w : List ℕ) → spaceless w ≡ true → pieces (t ++ (32 ∷ w)) ≡ pieces t ++ (w ∷ [])
pieces-grow t w e = pieces-append t w ∙ ap (λ (r : List (List ℕ)). pieces t ++ r) (pieces-one w e)

line-space : (ws : List (List ℕ)) → 0 < length ws → line ([] ∷ ws) ≡ 32 ∷ line ws
unfolding line
line-space [] h = absurd (not-suc-le-zero h)
line-space (w ∷ ws) h = refl

line-onto : (x : ℕ) (ws : List (List ℕ)) → 0 < length ws → line (onto x ws) ≡ x ∷ line ws
unfolding line
line-onto x [] h = absurd (not-suc-le-zero h)
line-onto x (w ∷ []) h = refl
line-onto x (w ∷ v ∷ ws) h = refl

-- the pieces of a text joined by single spaces are the text
pub line-pieces : (t : List ℕ) → line (pieces t) ≡ t
unfolding pieces line
line-pieces [] = refl
line-pieces (x ∷ xs) = by (eqb x 32)
    (λ e. rw (e, line-space (pieces xs) (pieces-some xs), line-pieces xs, eqb-true x 32 e))
    (λ e. rw (e, line-onto x (pieces xs) (pieces-some xs), line-pieces xs))

-- and words without a space joined by single spaces have those words for pieces
pub pieces-line : (ws : List (List ℕ)) → 0 < length ws → all_of spaceless ws ≡ true → pieces (line ws) ≡ ws
unfolding line all_of
pieces-line [] h t = absurd (not-suc-le-zero h)
pieces-line (w ∷ []) h t = pieces-one w (both_left (spaceless w) true t)
pieces-line (w ∷ v ∷ ws) h t =
    pieces-append w (line (v ∷ ws))
    ∙ rw (pieces-one w (both_left (spaceless w) (all_of spaceless (v ∷ ws)) t), pieces-line (v ∷ ws) (suc-le-suc zero-le) (both_right (spaceless w) (all_of spaceless (v ∷ ws)) t))

all_one : (f : List ℕ → Bool) (w : List ℕ) → all_of f (w ∷ []) ≡ f w
unfolding all_of
all_one f w = both-unit (f w)

-- the pieces are what the library's `split` gives
onto-first : (x : ℕ) (ws : List (List ℕ)) → onto x ws ≡ onto_first x ws
onto-first x [] = refl
onto-first x (w ∷ ws) = refl

pieces-split : (t : List ℕ) → pieces t ≡ slice_split (λ x. eqb x 32) t
unfolding pieces
pieces-split [] = refl
pieces-split (x ∷ xs) = by (eqb x 32) (λ e. rw (e, pieces-split xs)) (λ e. rw (e, pieces-split xs) (onto-first x (slice_split (λ y. eqb y 32) xs)))

pub text-split : (m : Bool) (t : List ℕ) → list_all (in_name m) (slice_split (λ x. eqb x 32) t) ≡ name_text m t
unfolding name_text
text-split m t = rw (pieces-split t, all-list (in_name m) (slice_split (λ x. eqb x 32) t))

-- The words of a name, and a name grown by a word.

-- a text of one word is a name where a name may have that word
pub name-word-alone : (m : Bool) (w : List ℕ) → spaceless w ≡ true → name_text m w ≡ in_name m w
unfolding name_text
name-word-alone m w e = rw (pieces-one w e) (all_one (in_name m) w)

-- two texts joined by a space are a name where both are
pub name-append : (m : Bool) (t u : List ℕ) → name_text m (t ++ (32 ∷ u)) ≡ both (name_text m t) (name_text m u)
unfolding name_text
name-append m t u = rw (pieces-append t u) (all_append (in_name m) (pieces t) (pieces u))

pub name-some : (m : Bool) (t : List ℕ) → name_text m t ≡ true → 0 < length t
unfolding name_text pieces all_of name_word
name-some m [] e = clash false e refl
name-some m (x ∷ xs) e = suc-le-suc zero-le

-- Bytes: those of a name's words are plain.

pub name-byte-plain : (x : ℕ) → name_byte x ≡ true → plain x ≡ true
unfolding allowed
name-byte-plain x e = either-cases (letter x) (eqb x 45) e (letter-plain x) (λ h. rw (eqb-true x 45 h))

pub name-word-plain : (w : List ℕ) → name_word w ≡ true → plain_word w ≡ true
unfolding name_word
name-word-plain w e =
    let ends : Bool = both (letter (get_or w 0 0)) (letter (get_or w (length w - 1) 0)) in
    let rest : both (all_of name_byte w) ends ≡ true = both_right (ltb 0 (length w)) (both (all_of name_byte w) ends) e in
    both_true (both_left (ltb 0 (length w)) (both (all_of name_byte w) ends) e)
    (all-weaken name_byte plain name-byte-plain w (both_left (all_of name_byte w) ends rest))

pub in-name-plain : (m : Bool) (w : List ℕ) → in_name m w ≡ true → plain_word w ≡ true
in-name-plain m w e = name-word-plain w (both_left (name_word w) (not (in_table (closers m) (word_in (closers m) w))) e)

pub pieces-plain : (m : Bool) (t : List ℕ) → name_text m t ≡ true → all_of plain_word (pieces t) ≡ true
unfolding name_text
pieces-plain m t e = all-weaken (in_name m) plain_word (in-name-plain m) (pieces t) e

pub closing-plain : (n : ℕ) → good_closing n ≡ true → plain_word (numbered 1 closing_words n) ≡ true
unfolding closing_words all_of allowed
closing-plain n g = numbered-all plain_word 1 closing_words (lit< tt) refl n g

solid-space : (x : ℕ) → solid x ≡ true → not (eqb 32 x) ≡ true
solid-space x e = by (eqb 32 x) (λ h. clash false (rw (← (eqb-true 32 x h)) at e) refl) (λ h. rw h)

pub plain-spaceless : (w : List ℕ) → plain_word w ≡ true → spaceless w ≡ true
plain-spaceless w e = all-weaken plain (λ (x : ℕ). not (eqb 32 x)) (λ x h. solid-space x (byte-solid x h)) w (run-all plain w e)

pub in-name-spaceless : (m : Bool) (w : List ℕ) → in_name m w ≡ true → spaceless w ≡ true
in-name-spaceless m w e = plain-spaceless w (in-name-plain m w e)

pub name-one : (m : Bool) (w : List ℕ) → in_name m w ≡ true → name_text m w ≡ true
name-one m w e = name-word-alone m w (in-name-spaceless m w e) ∙ e

pub name-grow : (m : Bool) (t w : List ℕ) → name_text m t ≡ true → in_name m w ≡ true → name_text m (t ++ (32 ∷ w)) ≡ true
name-grow m t w e f = name-append m t w ∙ both_true e (name-one m w f)
