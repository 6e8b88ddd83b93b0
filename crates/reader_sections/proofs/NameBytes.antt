-- Names: a word put into the bytes of a name, the first one and one more.
use mathlib.Core.List.{List, [], ◌∷◌, ◌++◌, append_assoc}
use mathlib.Core.Path.{◌≡◌, refl, ap, sym, ◌∙◌}
use Prim.Native.Nat.{ℕ, ◌+◌, ◌-◌, ◌≤◌}
use native.Mathlib.Nat.{zero-add}
use native.Mathlib.Numerals.{add-one}
use native.Mathlib.Omega.{arith}
use lib.ListN.{length, take, drop, set, replicate, length-append, length-replicate, replicate-append-replicate}
use lib.Seq.{take-append_seam, take-suc-set, drop-append-add, drop_at, drop-set-lt}
use Rattle.message.specs.Limits.{name_bytes}
use Rattle.message.specs.declared.Name.{Name}
use Rattle.message.specs.Names.{no_name}
use Rattle.grammar.specs.Records.{name_of}
use Rattle.grammar.specs.Steps.{grown}
use Rattle.reader_sections.specs.Names.{GrownSays}

abbrev zeros : ℕ → List ℕ
zeros n = replicate n 0

drop-zeros : (n m : ℕ) → n ≤ m → drop n (zeros m) ≡ zeros (m - n)
drop-zeros n m h =
    let parts : m ≡ n + (m - n) = omega arith in
    ap (λ (k : ℕ). drop n (zeros k)) parts ∙ (ap (drop n) (sym (replicate-append-replicate n (m - n) 0)) ∙ drop_at (zeros n) (zeros (m - n)) n (length-replicate n 0))

name-is : {b c : List ℕ} {n k : ℕ} → b ≡ c → n ≡ k → ◌≡◌ {A = Name} (record { bytes = b; count = n }) (record { bytes = c; count = k })
name-is e f = λ i. record { bytes = e i; count = f i }

-- the first word of a name, put into the bytes of the empty one
pub first-in : {out : List ℕ} (w : List ℕ) → length w ≤ name_bytes → out ≡ take 0 no_name.bytes ++ (w ++ drop (0 + length w) no_name.bytes)
    → ◌≡◌ {A = Name} (record { bytes = out; count = length w }) (name_of w)
first-in w h e = name-is (e ∙ rw zero-add (ap (λ (z : List ℕ). w ++ z) (drop-zeros (length w) name_bytes h))) refl

-- one more word, put behind a text and a space
put-behind : (x w : List ℕ) → length x + (1 + length w) ≤ name_bytes
    → take (length x + 1) (set (name_of x).bytes (length x) 32) ++ (w ++ drop (length x + 1 + length w) (set (name_of x).bytes (length x) 32)) ≡ (name_of (grown x w)).bytes
put-behind x w h =
    let after : List ℕ = zeros (name_bytes - length x) in
    let long : length (x ++ after) ≡ name_bytes = length-append x after ∙ rw length-replicate (omega arith) in
    let front : take (length x + 1) (set (x ++ after) (length x) 32) ≡ x ++ (32 ∷ []) =
    rw add-one (take-suc-set (x ++ after) (length x) 32 (omega arith) ∙ ap (λ (l : List ℕ). l ++ (32 ∷ [])) (take-append_seam x after)) in
    let past : length x + 1 + length w ≡ length x + (1 + length w) = omega arith in
    let left : name_bytes - length x - (1 + length w) ≡ name_bytes - length (grown x w) = omega (arith, length-append x (32 ∷ w)) in
    let back : drop (length x + 1 + length w) (set (x ++ after) (length x) 32) ≡ zeros (name_bytes - length (grown x w)) =
    drop-set-lt (length x + 1 + length w) (x ++ after) (length x) 32 (omega arith)
    ∙ (ap (λ (n : ℕ). drop n (x ++ after)) past
    ∙ (drop-append-add x after (1 + length w) ∙ (drop-zeros (1 + length w) (name_bytes - length x) (omega arith) ∙ ap zeros left))) in
    let rest : List ℕ = zeros (name_bytes - length (grown x w)) in
    rw (front, back) (append_assoc x (32 ∷ []) (w ++ rest) ∙ sym (append_assoc x (32 ∷ w) rest))

pub grown-says : (name : Name) (w out : List ℕ) (n : ℕ) → name.count + 1 + length w ≤ name_bytes
    → out ≡ take (name.count + 1) (set name.bytes name.count 32) ++ (w ++ drop (name.count + 1 + length w) (set name.bytes name.count 32))
    → n ≡ name.count + 1 + length w → GrownSays name w (record { bytes = out; count = n })
grown-says name w out n h e l = record {
  says = λ x is.
      let many : name.count ≡ length x = ap (λ (k : Name). k.count) is in
      name-is (e ∙ rw is (put-behind x w (omega arith))) (l ∙ omega (arith, length-append x (32 ∷ w)));
  longer = l;
}
