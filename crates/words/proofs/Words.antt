-- The laws of words: what the next word is, what every word is, and that joining words and reading them undo one another.
use mathlib.Core.Bool.{Bool, true, false}
use mathlib.Core.List.{List, [], ◌∷◌, ◌++◌, append-nil, append_assoc}
use mathlib.Core.Path.{◌≡◌, refl, ap, sym, ◌∙◌}
use Prim.Native.Nat.{ℕ, suc, ◌+◌, ◌-◌, ◌≤◌, ◌<◌, zero-le, suc-le-suc}
use native.Mathlib.Nat.{suc-add, add-suc, add-zero, zero-add, not-suc-le-zero}
use native.Mathlib.Omega.{arith}
use lib.Dec.{ltb}
use lib.ListN.{length, take, drop, get_or, length-drop}
use lib.Seq.{drop-drop, append_snoc, length-take-le, drop-length, get_or-drop}
use borrow.Author.Tests.{lt-ltb, ltb-true, not-true}
use Rattle.lists.specs.Lists.{index_of, index_from, all_of, part}
use Rattle.lists.proofs.Choice.{by, both_left, both_right, both_true}
use Rattle.lists.proofs.Lists.{all_append, index-within, from_found, from-within}
use Rattle.words.specs.Bytes.{allowed, blank, solid, unequal, plain}
use Rattle.words.specs.Words.{Word, equals_sign, ended, scan, words_at, bytes_of, words_in, run_of, solid_word, plain_word, gap, line}

-- One word further.

-- blanks before a word are passed over
scan-skip : (p : ℕ) (t : List ℕ) → scan p [] t ≡ scan (p + index_of solid t) [] (drop (index_of solid t) t)
unfolding scan index_of
scan-skip p [] = rw add-zero
scan-skip p (b ∷ bs) = by (blank b)
    (λ e. rw (e, scan-skip (suc p) bs, suc-add p (index_of solid bs), add-suc p (index_of solid bs)))
    (λ e. rw (e, add-zero, e))

-- what was read of a word is continued to the next blank, and there the word ends
scan-word : (p : ℕ) (w t : List ℕ) → scan p w t ≡ ended (w ++ take (index_of blank t) t) (p + index_of blank t) (scan (p + index_of blank t) [] (drop (index_of blank t) t))
unfolding scan index_of
scan-word p w [] = rw (add-zero, append-nil)
scan-word p w (b ∷ bs) = by (blank b)
    (λ e. rw (e, add-zero, append-nil, e))
    (λ e. rw (e, scan-word (suc p) (w ++ (b ∷ [])) bs, suc-add p (index_of blank bs), add-suc p (index_of blank bs), append_snoc))

-- Runs.

pub run-some : (f : ℕ → Bool) (w : List ℕ) → run_of f w ≡ true → 0 < length w
run-some f w t = ltb-true 0 (length w) (both_left (ltb 0 (length w)) (all_of f w) t)

pub run-all : (f : ℕ → Bool) (w : List ℕ) → run_of f w ≡ true → all_of f w ≡ true
run-all f w t = both_right (ltb 0 (length w)) (all_of f w) t

pub run-of : (f : ℕ → Bool) (w : List ℕ) → 0 < length w → all_of f w ≡ true → run_of f w ≡ true
run-of f w h t = both_true (lt-ltb 0 (length w) h) t

-- a word that is not empty ends as a word
ended_some : (w : List ℕ) (p : ℕ) (ws : List Word) → 0 < length w → ended w p ws ≡ record { place = p - length w; bytes = w } ∷ ws
ended_some [] p ws h = absurd (not-suc-le-zero h)
ended_some (b ∷ w) p ws h = refl

-- the first byte of what is looked at fails the test, so what is found is further on
index-moves : (f : ℕ → Bool) (t : List ℕ) → 0 < length t → f (get_or t 0 0) ≡ false → 0 < index_of f t
unfolding index_of
index-moves f [] h e = absurd (not-suc-le-zero h)
index-moves f (b ∷ bs) h e = rw e (suc-le-suc zero-le)

-- where the next word from place p on begins and ends
abbrev pub start_at : List ℕ → ℕ → ℕ
start_at t p = index_from solid p t

abbrev pub stop_at : List ℕ → ℕ → ℕ
stop_at t p = index_from blank (start_at t p) t

pub words-skip : (t : List ℕ) (p : ℕ) → words_at t p ≡ words_at t (start_at t p)
words-skip t p = scan-skip p (drop p t) ∙ ap (λ (s : List ℕ). scan (start_at t p) [] s) (drop-drop (index_of solid (drop p t)) p t)

-- from a place where a word of k bytes begins, k not 0
words-here : (t : List ℕ) (s : ℕ) → s ≤ length t → 0 < index_of blank (drop s t)
    → words_at t s ≡ record { place = s; bytes = part s (index_from blank s t) t } ∷ words_at t (index_from blank s t)
words-here t s h some =
    let k : ℕ = index_of blank (drop s t) in
    let long : length (take k (drop s t)) ≡ k = length-take-le k (drop s t) (index-within blank (drop s t)) in
    let back : (s + k) - length (take k (drop s t)) ≡ s = omega arith in
    let width : (s + k) - s ≡ k = omega arith in
    scan-word s [] (drop s t)
    ∙ (ended_some (take k (drop s t)) (s + k) (scan (s + k) [] (drop k (drop s t))) (omega arith)
    ∙ rw (back, width, drop-drop k s t))

-- a word begins with a solid byte
solid-start : (t : List ℕ) (p : ℕ) → start_at t p < length t → blank (get_or t (start_at t p) 0) ≡ false
solid-start t p h = not-true (blank (get_or t (start_at t p) 0)) (from_found solid t p 0 h)

-- so it is not empty
blank-later : (t : List ℕ) (p : ℕ) → start_at t p < length t → 0 < index_of blank (drop (start_at t p) t)
blank-later t p h = index-moves blank (drop (start_at t p) t) (rw length-drop (omega arith)) (rw (get_or-drop, add-zero) (solid-start t p h))

pub next-moves : (t : List ℕ) (p : ℕ) → start_at t p < length t → start_at t p < stop_at t p
next-moves t p h = omega (arith, blank-later t p h)

-- the next word, and then the words from its end on
pub next_word : (t : List ℕ) (p : ℕ) → start_at t p < length t
    → words_at t p ≡ record { place = start_at t p; bytes = part (start_at t p) (stop_at t p) t } ∷ words_at t (stop_at t p)
next_word t p h = words-skip t p ∙ words-here t (start_at t p) (omega arith) (blank-later t p h)

-- where only blanks are left the next word is the last one, that of the `=`
pub last-start : (t : List ℕ) (p : ℕ) → p ≤ length t → length t ≤ start_at t p → start_at t p ≡ length t
last-start t p h k = omega (arith, from-within solid t p h)

pub last_word : (t : List ℕ) (p : ℕ) → p ≤ length t → length t ≤ start_at t p → words_at t p ≡ record { place = length t; bytes = equals_sign } ∷ []
unfolding scan
last_word t p h k = words-skip t p ∙ rw (last-start t p h k, drop-length t)

-- Every word but the last is a plain word, where the text has allowed bytes only and no `=`.

-- some plain words, and then the `=` at place q
pub record Plains (q : ℕ) (ws : List Word) : Type 0 where
  pub front : List Word
  pub words : ws ≡ front ++ (record { place = q; bytes = equals_sign } ∷ [])
  pub plains : all_of (λ (w : Word). plain_word w.bytes) front ≡ true

ended-plains : (w : List ℕ) (p q : ℕ) (ws : List Word) → all_of plain w ≡ true → Plains q ws → Plains q (ended w p ws)
unfolding all_of
ended-plains [] p q ws t f = f
ended-plains (b ∷ w) p q ws t f = record {
  front = record { place = p - length (b ∷ w); bytes = b ∷ w } ∷ f.front;
  words = ap (λ (r : List Word). record { place = p - length (b ∷ w); bytes = b ∷ w } ∷ r) f.words;
  plains = both_true (run-of plain (b ∷ w) (suc-le-suc zero-le) t) f.plains;
}

scan-plains : (p : ℕ) (w t : List ℕ) → all_of plain w ≡ true → all_of allowed t ≡ true → all_of unequal t ≡ true → Plains (p + length t) (scan p w t)
unfolding scan all_of
scan-plains p w [] e a f = rw add-zero (ended-plains w p p (record { place = p; bytes = equals_sign } ∷ []) e (record { front = []; words = refl; plains = refl }))
scan-plains p w (b ∷ bs) e a f =
    let allows : all_of allowed bs ≡ true = both_right (allowed b) (all_of allowed bs) a in
    let frees : all_of unequal bs ≡ true = both_right (unequal b) (all_of unequal bs) f in
    by (blank b)
    (λ h. rw (h, add-suc, ← (suc-add p (length bs))) (ended-plains w p (suc p + length bs) (scan (suc p) [] bs) e (scan-plains (suc p) [] bs refl allows frees)))
    (λ h.
    let one : plain b ≡ true = rw (both_left (allowed b) (all_of allowed bs) a, h) (both_left (unequal b) (all_of unequal bs) f) in
    rw (h, add-suc, ← (suc-add p (length bs))) (scan-plains (suc p) (w ++ (b ∷ [])) bs (rw (all_append plain w (b ∷ []), e, one)) allows frees))

pub words-plain : (t : List ℕ) → all_of allowed t ≡ true → all_of unequal t ≡ true → Plains (length t) (words_at t 0)
unfolding all_of
words-plain t a f = rw zero-add at (scan-plains 0 [] t refl a f)

-- Reading words back.

-- the words from place p on, w being read so far, without their places
abbrev pub bytes_from : ℕ → List ℕ → List ℕ → List (List ℕ)
bytes_from p w t = bytes_of (scan p w t)

bytes-ended : (w : List ℕ) (p q : ℕ) (us vs : List Word) → bytes_of us ≡ bytes_of vs
    → bytes_of (ended w p us) ≡ bytes_of (ended w q vs)
bytes-ended [] p q us vs e = e
bytes-ended (b ∷ w) p q us vs e = rw e

-- the place where a scan begins tells in the places only
pub bytes-placeless : (p q : ℕ) (w t : List ℕ) → bytes_from p w t ≡ bytes_from q w t
unfolding scan
bytes-placeless p q w [] = bytes-ended w p q (record { place = p; bytes = equals_sign } ∷ []) (record { place = q; bytes = equals_sign } ∷ []) refl
bytes-placeless p q w (b ∷ bs) = by (blank b)
    (λ e. rw e (bytes-ended w p q (scan (suc p) [] bs) (scan (suc q) [] bs) (bytes-placeless (suc p) (suc q) [] bs)))
    (λ e. rw e (bytes-placeless (suc p) (suc q) (w ++ (b ∷ [])) bs))

bytes-blank : (p : ℕ) (s rest : List ℕ) → all_of blank s ≡ true → bytes_from p [] (s ++ rest) ≡ bytes_from p [] rest
unfolding scan all_of
bytes-blank p [] rest t = refl
bytes-blank p (b ∷ s) rest t =
    rw (both_left (blank b) (all_of blank s) t) (bytes-placeless (suc p) p [] (s ++ rest) ∙ bytes-blank p s rest (both_right (blank b) (all_of blank s) t))

bytes-solid : (p : ℕ) (w v rest : List ℕ) → all_of solid v ≡ true → bytes_from p w (v ++ rest) ≡ bytes_from p (w ++ v) rest
unfolding scan all_of
bytes-solid p w [] rest t = rw append-nil
bytes-solid p w (b ∷ v) rest t =
    rw (not-true (blank b) (both_left (solid b) (all_of solid v) t))
    (bytes-placeless (suc p) p (w ++ (b ∷ [])) (v ++ rest) ∙ (bytes-solid p (w ++ (b ∷ [])) v rest (both_right (solid b) (all_of solid v) t) ∙ rw append_snoc))

bytes-break : (p : ℕ) (w s rest : List ℕ) → 0 < length w → gap s ≡ true → bytes_from p w (s ++ rest) ≡ w ∷ bytes_from p [] rest
unfolding scan all_of
bytes-break p w [] rest h t = absurd (not-suc-le-zero (run-some blank [] t))
bytes-break p w (b ∷ s) rest h t =
    let all : all_of blank (b ∷ s) ≡ true = run-all blank (b ∷ s) t in
    rw (both_left (blank b) (all_of blank s) all, ended_some w p (scan (suc p) [] (s ++ rest)) h, bytes-placeless (suc p) p [] (s ++ rest))
    (ap (λ (r : List (List ℕ)). w ∷ r) (bytes-blank p s rest (both_right (blank b) (all_of blank s) all)))

-- blanks in front are passed over
pub words-blanks : (s rest : List ℕ) → all_of blank s ≡ true → words_in (s ++ rest) ≡ words_in rest
words-blanks s rest t = bytes-blank 0 s rest t

-- a word, blanks and the rest: that word, and the words of the rest
pub words-join : (w s rest : List ℕ) → solid_word w ≡ true → gap s ≡ true → words_in (w ++ (s ++ rest)) ≡ w ∷ words_in rest
words-join w s rest e t = bytes-solid 0 [] w (s ++ rest) (run-all solid w e) ∙ bytes-break 0 w s rest (run-some solid w e) t

-- a word alone
pub words-one : (w : List ℕ) → solid_word w ≡ true → words_in w ≡ w ∷ (equals_sign ∷ [])
unfolding scan
words-one w e =
    ap (λ (t : List ℕ). bytes_from 0 [] t) (sym (append-nil w))
    ∙ (bytes-solid 0 [] w [] (run-all solid w e) ∙ rw (ended_some w 0 (record { place = 0; bytes = equals_sign } ∷ []) (run-some solid w e)))

pub gap-space : gap (32 ∷ []) ≡ true
unfolding all_of
gap-space = refl

pub gap-crlf : gap (13 ∷ 10 ∷ []) ≡ true
unfolding all_of
gap-crlf = refl

-- words joined by single spaces, and blanks, and the rest
pub words-line : (ws : List (List ℕ)) (s rest : List ℕ) → all_of solid_word ws ≡ true → gap s ≡ true → words_in (line ws ++ (s ++ rest)) ≡ ws ++ words_in rest
unfolding line all_of
words-line [] s rest t e = words-blanks s rest (run-all blank s e)
words-line (w ∷ []) s rest t e = words-join w s rest (both_left (solid_word w) (all_of solid_word []) t) e
words-line (w ∷ v ∷ ws) s rest t e =
    ap words_in (append_assoc w (32 ∷ line (v ∷ ws)) (s ++ rest))
    ∙ (words-join w (32 ∷ []) (line (v ∷ ws) ++ (s ++ rest)) (both_left (solid_word w) (all_of solid_word (v ∷ ws)) t) gap-space
    ∙ ap (λ (r : List (List ℕ)). w ∷ r) (words-line (v ∷ ws) s rest (both_right (solid_word w) (all_of solid_word (v ∷ ws)) t) e))

-- words joined by single spaces, and nothing more
pub words-line-end : (ws : List (List ℕ)) → all_of solid_word ws ≡ true → words_in (line ws) ≡ ws ++ (equals_sign ∷ [])
unfolding line all_of scan
words-line-end [] t = refl
words-line-end (w ∷ []) t = words-one w (both_left (solid_word w) (all_of solid_word []) t)
words-line-end (w ∷ v ∷ ws) t =
    words-join w (32 ∷ []) (line (v ∷ ws)) (both_left (solid_word w) (all_of solid_word (v ∷ ws)) t) gap-space
    ∙ ap (λ (r : List (List ℕ)). w ∷ r) (words-line-end (v ∷ ws) (both_right (solid_word w) (all_of solid_word (v ∷ ws)) t))
