-- A pen that puts one text and then another has put both; words with a space before each are a line; and a text with room is put whole.
use mathlib.Core.List.{List, [], ◌∷◌, ◌++◌, map-append, append_assoc, append-nil}
use mathlib.Core.Path.{◌≡◌, refl, ap, sym, subst, ◌∙◌}
use Prim.Native.Nat.{ℕ, zero, suc, ◌+◌, ◌-◌, ◌/◌, ◌%◌, ◌≤◌, ◌<◌}
use native.Mathlib.Nat.{add-zero, zero-add}
use native.Mathlib.Numerals.{add-one, sub-one}
use native.Mathlib.Omega.{arith}
use lib.ListN.{length, get_or, take, drop, set, length-set}
use lib.Seq.{take-suc, sets, sets-eq}
use borrow.Author.Tests.{lt-ltb}
use Rattle.lists.specs.Base.{places}
use Rattle.words.specs.Words.{line}
use Rattle.figures.specs.Codes.{FixedWord, spell_code}
use Rattle.pens.specs.Pens.{Pen, pen, stroke, strokes, Puts, spaced, Words, shifted}

-- Texts.

pub strokes_append : (a b : List ℕ) (p : Pen) → strokes (a ++ b) p ≡ strokes b (strokes a p)
unfolding strokes
strokes_append [] b p = refl
strokes_append (x ∷ a) b p = strokes_append a b (stroke x p)

pub nothing : {at : ℕ} {page : List ℕ} → Puts [] at page at page
unfolding strokes
nothing = record { says = refl }

pub then : {a b : List ℕ} {at n m : ℕ} {page p q : List ℕ} → Puts a at page n p → Puts b n p m q → Puts (a ++ b) at page m q
then {a} {b} {at} {n} {m} {page} f g = record { says = strokes_append a b (pen at page) ∙ (ap (strokes b) f.says ∙ g.says) }

-- the same byte by another name
pub put-alike : {x y at next : ℕ} {page after : List ℕ} → x ≡ y → Puts (x ∷ []) at page next after → Puts (y ∷ []) at page next after
put-alike {x} {y} {at} {next} {page} {after} e f = subst (λ (z : ℕ). Puts (z ∷ []) at page next after) e f

-- the next byte of a text
pub one_more : (t : List ℕ) (i : ℕ) {at n m : ℕ} {page p q : List ℕ} → i < length t → Puts (take i t) at page n p → Puts (get_or t i 0 ∷ []) n p m q
    → Puts (take (i + 1) t) at page m q
one_more t i h f g =
    let both : Puts (take i t ++ (get_or t i 0 ∷ [])) _ _ _ _ = then f g in
    record { says = rw (add-one i, take-suc t i 0 h) both.says }

-- no place of a number, and one more
pub no_place : (first base k n : ℕ) {at : ℕ} {page : List ℕ} → k ≡ 0 → Puts (shifted first base k n) at page at page
unfolding places strokes
no_place first base k n e = record { says = rw e }

pub place-more : (first base k n : ℕ) {at m o : ℕ} {page p q : List ℕ} → (k ≡ 0 → ⊥) → Puts (shifted first base (k - 1) (n / base)) at page m p
    → Puts ((n % base + first) ∷ []) m p o q → Puts (shifted first base k n) at page o q
unfolding places
place-more first base zero n h f g = absurd (h refl)
place-more first base (suc k) n h f g =
    let last : List ℕ = (n % base + first) ∷ [] in
    let both : Puts (shifted first base (suc k - 1) (n / base) ++ last) _ _ _ _ = then f g in
    let e : suc k - 1 ≡ k = sub-one (suc k) in
    record { says = rw (map-append (λ (d : ℕ). d + first) (places base k (n / base)) (n % base ∷ [])) (rw e at both.says) }

-- Words.

pub spaced_append : (a b : List (List ℕ)) → spaced (a ++ b) ≡ spaced a ++ spaced b
unfolding spaced
spaced_append [] b = refl
spaced_append (w ∷ a) b = rw (spaced_append a b, append_assoc w (spaced a) (spaced b))

pub no_words : {at : ℕ} {page : List ℕ} → Words [] at page at page
unfolding strokes spaced
no_words = record { says = refl }

pub and_then : {a b : List (List ℕ)} {at n m : ℕ} {page p q : List ℕ} → Words a at page n p → Words b n p m q → Words (a ++ b) at page m q
and_then {a} {b} {at} {n} {m} {page} f g =
    record { says = ap (λ (t : List ℕ). strokes t (pen at page)) (spaced_append a b) ∙ (strokes_append (spaced a) (spaced b) (pen at page) ∙ (ap (strokes (spaced b)) f.says ∙ g.says)) }

-- a word by another name
pub renamed : {v w : List ℕ} {at n : ℕ} {page p : List ℕ} → v ≡ w → Words (v ∷ []) at page n p → Words (w ∷ []) at page n p
renamed e f = rw e at f

-- a fixed word by its code
pub fixed : {k : List ℕ} {code : ℕ} {at n : ℕ} {page p : List ℕ} → FixedWord k code → Words (spell_code code ∷ []) at page n p → Words (k ∷ []) at page n p
fixed w f = renamed w.spelled f

-- a word goes on
pub goes_on : {w x : List ℕ} {at n m : ℕ} {page p q : List ℕ} → Words (w ∷ []) at page n p → Puts x n p m q → Words ((w ++ x) ∷ []) at page m q
unfolding spaced
goes_on {w} {x} {at} {n} {m} {page} f g =
    let whole : spaced ((w ++ x) ∷ []) ≡ spaced (w ∷ []) ++ x = rw (append-nil (w ++ x), append-nil w) in
    record { says = ap (λ (t : List ℕ). strokes t (pen at page)) whole ∙ (strokes_append (spaced (w ∷ [])) x (pen at page) ∙ (ap (strokes x) f.says ∙ g.says)) }

-- Lines.

pub line_spaced : (w : List ℕ) (ws : List (List ℕ)) → line (w ∷ ws) ≡ w ++ spaced ws
unfolding line spaced
line_spaced w [] = sym (append-nil w)
line_spaced w (v ∷ ws) = ap (λ (t : List ℕ). w ++ (32 ∷ t)) (line_spaced v ws)

-- what is put in turn is put as one: texts, words and the words of a line
pub ruleset in_turn = (strokes_append, spaced_append, line_spaced)

-- Room.

-- a text with room goes in byte by byte, whole
strokes-room : (t : List ℕ) (at : ℕ) (page : List ℕ) → at + length t ≤ length page → strokes t (pen at page) ≡ pen (at + length t) (sets page at t)
unfolding strokes stroke
strokes-room [] at page h = ap (λ (n : ℕ). pen n page) (sym (add-zero at))
strokes-room (x ∷ t) at page h =
    let here : at < length page = omega arith in
    let more : suc at + length t ≤ length (set page at x) = rw (length-set page at x) (omega arith) in
    let sum : suc at + length t ≡ at + suc (length t) = omega arith in
    rw (lt-ltb at (length page) here, add-one at) (strokes-room t (suc at) (set page at x) more ∙ ap (λ (n : ℕ). pen n (sets (set page at x) (suc at) t)) sum)

pen-at : {n m : ℕ} {p q : List ℕ} → pen n p ≡ pen m q → n ≡ m
pen-at e = ap (λ (x : Pen). x.at) e

pen-page : {n m : ℕ} {p q : List ℕ} → pen n p ≡ pen m q → p ≡ q
pen-page e = ap (λ (x : Pen). x.page) e

-- from the front of a page with room: the pen stands behind the text, and the bytes behind it are as they were
pub put-place : {t : List ℕ} {n : ℕ} {page after : List ℕ} → Puts t 0 page n after → length t ≤ length page → n ≡ length t
put-place {t} {n} {page} f h = pen-at (sym f.says ∙ strokes-room t 0 page (omega arith)) ∙ zero-add (length t)

pub put-page : {t : List ℕ} {n : ℕ} {page after : List ℕ} → Puts t 0 page n after → length t ≤ length page → after ≡ t ++ drop (length t) page
put-page {t} {n} {page} f h = pen-page (sym f.says ∙ strokes-room t 0 page (omega arith)) ∙ rw (sets-eq t page 0 (omega arith), zero-add (length t))

-- two pens that have put the same text from the same place stand alike, on pages alike
pub puts-same : {t : List ℕ} {at n m : ℕ} {page p q : List ℕ} → Puts t at page n p → Puts t at page m q → pen n p ≡ pen m q
puts-same f g = sym f.says ∙ g.says

pub words_same : {ws : List (List ℕ)} {at n m : ℕ} {page p q : List ℕ} → Words ws at page n p → Words ws at page m q → pen n p ≡ pen m q
words_same f g = sym f.says ∙ g.says
