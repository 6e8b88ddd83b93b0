-- 01, "The listing is records of one kind byte and a body whose length the kind fixes: kind 1, the time asked (4 bytes); kinds 2 (WS) and
-- 3 (WV), 16 bytes: area 4, sequence 3 padded, correction 1 (space or letter), start 4, end 4. Numbers are big-endian. Kind 1 comes first".
-- Believed.
use Rattle.std.specs.Prelude.{List, [], ◌∷◌, ◌++◌, ℕ, eqb}
use Prim.Native.Char.{code}
use Rattle.lists.specs.Choice.{pick}
use Rattle.figures.specs.Letters.{in_letters}
use Rattle.places.specs.declared.Place.{Place}

-- "kind 1, the time asked (4 bytes)"
unfoldable pub time_record : ℕ → List ℕ
time_record time = 1 ∷ in_letters 4 time

-- "correction 1 (space or letter)"
abbrev pub correction_byte : ℕ → ℕ
correction_byte c = pick (eqb c 0) (code " ") c

-- "kinds 2 (WS) and 3 (WV), 16 bytes: area 4, sequence 3 padded, correction 1 (space or letter), start 4, end 4"
unfoldable pub message_record : Place → List ℕ
message_record p =
    p.identity.kind
    ∷ (in_letters 4 p.identity.area
    ++ (in_letters 3 p.identity.sequence
    ++ (correction_byte p.correction ∷ (in_letters 4 p.identity.start ++ in_letters 4 p.identity.end))))

-- one record after the other
unfoldable pub records : List Place → List ℕ
records [] = []
records (p ∷ ps) = message_record p ++ records ps

-- "Kind 1 comes first, and each record goes in from the place where the one before it ended."
abbrev pub listing : ℕ → List Place → List ℕ
listing time rows = time_record time ++ records rows
