-- The phenomenon of a WV: a cloud of ash, and the eruption that it comes from.
use mathlib.Core.Bool.{true, false}
use mathlib.Core.List.{List, [], ◌∷◌, ◌++◌, append_assoc}
use mathlib.Core.Path.{◌≡◌, refl, ap, sym, ◌∙◌}
use Prim.Native.Nat.{ℕ}
use lib.Dec.{leb, lit<}
use lib.ListN.{length, take}
use Rattle.lists.specs.Base.{worth_after}
use Rattle.lists.specs.Lists.{all_of, index_of, same}
use Rattle.lists.specs.Text.{bytes}
use Rattle.lists.proofs.Choice.{both_left, both_true, either_left, either-right, either-cases}
use Rattle.lists.proofs.Lists.{all_append, same-is}
use Rattle.words.specs.Bytes.{allowed}
use Rattle.words.specs.Words.{plain_word}
use Rattle.figures.specs.Figures.{figures_of}
use Rattle.figures.proofs.ReadsLaws.{reads-spelled}
use Rattle.coordinates.specs.Coordinates.{north_south, east_west, coordinate_of, good_coordinate, spell_coordinate}
use Rattle.coordinates.specs.Points.{point_words}
use Rattle.coordinates.proofs.Axes.{latitude-reads, longitude-reads, latitude-plain, longitude-plain}
use Rattle.coordinates.specs.declared.Coordinate.{Coordinate}
use Rattle.names.specs.Names.{name_word, in_name, pieces}
use Rattle.message.specs.Limits.{mountain_limit, wv, ash_cloud, eruption}
use Rattle.message.specs.Names.{good_name, empty_name, no_name}
use Rattle.message.specs.Reports.{phenomena, good_volcano, no_volcano, good_phenomenon, mount_words, phenomenon_words}
use Rattle.message.specs.declared.Name.{Name}
use Rattle.message.specs.declared.Volcano.{Volcano}
use Rattle.message.proofs.Empties.{empty-name-is, no-name-empty, no-volcano-empty}
use Rattle.message.proofs.Goodness.{volcano-parts, volcano-good}
use Rattle.grammar.specs.Placing.{is}
use Rattle.grammar.specs.Records.{name_of}
use Rattle.grammar.specs.Runs.{walk}
use Rattle.grammar.specs.States.{ToArea, ToPhenomenon}
use Rattle.grammar.specs.States.Move.{goes}
use Rattle.grammar.specs.States.State.{at_form, at_ash, at_eruption, at_mountain, at_more_mountain, at_position, at_position_longitude, at_volcano_ash, at_volcano_cloud, at_observation}
use Rattle.grammar.specs.Steps.{begun, gone_on, grown, weather, kind_of, step_form, step}
use Rattle.grammar.proofs.Told.{told, told_area, onward-append, onward-last}
use Rattle.grammar.proofs.Invariant.{AshOk, NameOk, MountainOk, PhenomenonOk, Ok}
use Rattle.grammar.proofs.Moves.{Fine, chosen, goes-if, Next, next-by, walk_step}
use Rattle.grammar.proofs.Moves.Fine.{leads}
use Rattle.grammar.proofs.NameText.{begun-name, begun-pieces, grown-name, grown-pieces, open-mountain, name-words-of, name-of-good, name-of-some, good-name-is, good-name-ok, good-name-some, good-name-plain, forth-name}

-- Sound.

cloud-good : good_phenomenon wv ash_cloud no_volcano ≡ true
unfolding good_phenomenon
cloud-good = rw no-volcano-empty

weather-ok : (o : ToArea) → AshOk o → PhenomenonOk (weather o ash_cloud)
weather-ok o ok = record { before = ok.opening; phenomenon = rw ok.kind cloud-good }

pub ash-sound : (o : ToArea) (w : List ℕ) → Ok (at_ash o) → Fine (at_ash o) w (step (at_ash o) w)
unfolding step told phenomenon_words phenomena
ash-sound o w ok =
    chosen (is "CLD" w) (λ g. leads (record { ok = weather-ok o ok; tells = rw (same-is w (bytes "CLD") g) }))
    (λ e. goes-if (is "ERUPTION" w) (λ g. record { ok = ok; tells = rw (same-is w (bytes "ERUPTION") g) }))

no-mountain : MountainOk no_name
no-mountain = either_left _ no-name-empty

no-mountain-words : mount_words no_name ≡ []
no-mountain-words = rw no-name-empty

pub eruption-sound : (o : ToArea) (w : List ℕ) → Ok (at_eruption o) → Fine (at_eruption o) w (step (at_eruption o) w)
unfolding step told
eruption-sound o w ok =
    chosen (is "MT" w) (λ g. leads (record { ok = ok; tells = rw (same-is w (bytes "MT") g) }))
    (λ e. goes-if (is "PSN" w) (λ g. record { ok = (ok, no-mountain); tells = rw (no-mountain-words, same-is w (bytes "PSN") g) }))

pub mountain-sound : (o : ToArea) (w : List ℕ) → Ok (at_mountain o) → Fine (at_mountain o) w (step (at_mountain o) w)
unfolding step told
mountain-sound o w ok =
    goes-if (begun true mountain_limit w) (λ g. record { ok = (ok, begun-name true mountain_limit w g); tells = rw (begun-pieces true mountain_limit w g) })

-- the words up to a mountain's name
abbrev to_mountain : List (List ℕ)
to_mountain = bytes "VA" ∷ bytes "ERUPTION" ∷ bytes "MT" ∷ []

-- the name of a mountain with that text
mountain-ok : (t : List ℕ) → NameOk true mountain_limit t → MountainOk (name_of t)
mountain-ok t ok = either-right (empty_name (name_of t)) (name-of-good true mountain_limit t ok (lit< tt))

mountain-words : (t : List ℕ) → NameOk true mountain_limit t → mount_words (name_of t) ≡ bytes "MT" ∷ pieces t
mountain-words t ok = rw (name-of-some true mountain_limit t ok, name-words-of t)

pub more-mountain-sound : (o : ToArea) (t w : List ℕ) → Ok (at_more_mountain o t) → Fine (at_more_mountain o t) w (step (at_more_mountain o t) w)
unfolding step told
more-mountain-sound o t w ok =
    chosen (is "PSN" w)
    (λ g. leads (record { ok = (ok.0, mountain-ok t ok.1); tells = rw (mountain-words t ok.1, same-is w (bytes "PSN") g) }))
    (λ e. goes-if (gone_on true mountain_limit t w)
    (λ g. record {
      ok = (ok.0, grown-name true mountain_limit t w ok.1 g);
      tells = rw (grown-pieces true mountain_limit t w g) (onward-last 7 (to_mountain ++ pieces t) w (told_area o));
    }))

pub position-sound : (o : ToArea) (n : Name) (w : List ℕ) → Ok (at_position o n) → Fine (at_position o n) w (step (at_position o n) w)
unfolding step told
position-sound o n w ok =
    goes-if (good_coordinate north_south (coordinate_of north_south w))
    (λ g. record { ok = (ok.0, ok.1, g); tells = rw (reads-spelled latitude-reads w g) })

pub position-longitude-sound : (o : ToArea) (n : Name) (c : Coordinate) (w : List ℕ) → Ok (at_position_longitude o n c)
    → Fine (at_position_longitude o n c) w (step (at_position_longitude o n c) w)
unfolding step told
position-longitude-sound o n c w ok =
    goes-if (good_coordinate east_west (coordinate_of east_west w))
    (λ g. record { ok = (ok.0, volcano-good _ (record { name = ok.1; latitude = ok.2; longitude = g })); tells = rw (reads-spelled longitude-reads w g) })

pub volcano-ash-sound : (o : ToArea) (v : Volcano) (w : List ℕ) → Ok (at_volcano_ash o v) → Fine (at_volcano_ash o v) w (step (at_volcano_ash o v) w)
unfolding step told
volcano-ash-sound o v w ok = goes-if (is "VA" w) (λ g. record { ok = ok; tells = rw (same-is w (bytes "VA") g) })

-- an eruption
abbrev erupted : ToArea → Volcano → ToPhenomenon
erupted o v = record { before = o; phenomenon = eruption; volcano = v }

eruption-good : (v : Volcano) → good_volcano v ≡ true → good_phenomenon wv eruption v ≡ true
unfolding good_phenomenon
eruption-good v g = g

eruption-ok : (o : ToArea) (v : Volcano) → AshOk o → good_volcano v ≡ true → PhenomenonOk (erupted o v)
eruption-ok o v ok g = record { before = ok.opening; phenomenon = rw ok.kind (eruption-good v g) }

pub volcano-cloud-sound : (o : ToArea) (v : Volcano) (w : List ℕ) → Ok (at_volcano_cloud o v) → Fine (at_volcano_cloud o v) w (step (at_volcano_cloud o v) w)
unfolding step told phenomenon_words phenomena
volcano-cloud-sound o v w ok =
    goes-if (is "CLD" w)
    (λ g. record {
      ok = eruption-ok o v ok.0 ok.1;
      tells =
          rw (same-is w (bytes "CLD") g)
          (onward-append 7 (bytes "VA" ∷ bytes "ERUPTION" ∷ mount_words v.name) (bytes "PSN" ∷ (point_words v.position ++ (bytes "VA" ∷ bytes "CLD" ∷ []))) (told_area o));
    })

-- Live.

module _ (observation : (p : ToPhenomenon) → PhenomenonOk p → Next (at_observation p)) where
  pub volcano-cloud-next : (o : ToArea) (v : Volcano) → Ok (at_volcano_cloud o v) → Next (at_volcano_cloud o v)
  unfolding step same
  volcano-cloud-next o v ok =
      next-by (at_volcano_cloud o v) (bytes "CLD") (at_observation (erupted o v)) refl refl (observation (erupted o v) (eruption-ok o v ok.0 ok.1))

  pub volcano-ash-next : (o : ToArea) (v : Volcano) → Ok (at_volcano_ash o v) → Next (at_volcano_ash o v)
  unfolding step same
  volcano-ash-next o v ok = next-by (at_volcano_ash o v) (bytes "VA") (at_volcano_cloud o v) refl refl (volcano-cloud-next o v ok)

  pub position-longitude-next : (o : ToArea) (n : Name) (c : Coordinate) → Ok (at_position_longitude o n c) → Next (at_position_longitude o n c)
  unfolding step coordinate_of good_coordinate figures_of all_of worth_after
  position-longitude-next o n c ok =
      let v : Volcano = record { name = n; position = record { latitude = c; longitude = coordinate_of east_west (bytes "E000") } } in
      next-by (at_position_longitude o n c) (bytes "E000") (at_volcano_ash o v) refl refl
      (volcano-ash-next o v (ok.0, volcano-good v (record { name = ok.1; latitude = ok.2; longitude = refl })))

  pub position-next : (o : ToArea) (n : Name) → Ok (at_position o n) → Next (at_position o n)
  unfolding step coordinate_of good_coordinate figures_of all_of worth_after
  position-next o n ok =
      let c : Coordinate = coordinate_of north_south (bytes "N00") in
      next-by (at_position o n) (bytes "N00") (at_position_longitude o n c) refl refl (position-longitude-next o n c (ok.0, ok.1, refl))

  pub more-mountain-next : (o : ToArea) (t : List ℕ) → Ok (at_more_mountain o t) → Next (at_more_mountain o t)
  unfolding step same
  more-mountain-next o t ok =
      next-by (at_more_mountain o t) (bytes "PSN") (at_position o (name_of t)) refl refl (position-next o (name_of t) (ok.0, mountain-ok t ok.1))

  pub mountain-next : (o : ToArea) → Ok (at_mountain o) → Next (at_mountain o)
  unfolding step name_word index_of all_of same
  mountain-next o ok =
      next-by (at_mountain o) (bytes "A") (at_more_mountain o (bytes "A")) refl refl
      (more-mountain-next o (bytes "A") (ok, begun-name true mountain_limit (bytes "A") refl))

  pub eruption-next : (o : ToArea) → Ok (at_eruption o) → Next (at_eruption o)
  unfolding step same
  eruption-next o ok = next-by (at_eruption o) (bytes "PSN") (at_position o no_name) refl refl (position-next o no_name (ok, no-mountain))

  pub ash-next : (o : ToArea) → Ok (at_ash o) → Next (at_ash o)
  unfolding step same
  ash-next o ok = next-by (at_ash o) (bytes "CLD") (at_observation (weather o ash_cloud)) refl refl (observation (weather o ash_cloud) (weather-ok o ok))

-- Forth.

form-step : (o : ToArea) → kind_of o ≡ wv → step (at_form o) (bytes "VA") ≡ goes (at_ash o)
unfolding step step_form same
form-step o k = rw k

mountain-on : (o : ToArea) (t w : List ℕ) → gone_on true mountain_limit t w ≡ true → step (at_more_mountain o t) w ≡ goes (at_more_mountain o (grown t w))
unfolding step
mountain-on o t w g = rw (open-mountain w (both_left (in_name true w) (leb (length (grown t w)) mountain_limit) g), g)

mountain-first : (o : ToArea) (w : List ℕ) → begun true mountain_limit w ≡ true → step (at_mountain o) w ≡ goes (at_more_mountain o w)
unfolding step
mountain-first o w g = rw g

-- perhaps `MT` and a name, and `PSN`
forth-no-mountain : (o : ToArea) (n : Name) (ws : List (List ℕ)) → empty_name n ≡ true
    → walk (goes (at_eruption o)) (mount_words n ++ (bytes "PSN" ∷ ws)) ≡ walk (goes (at_position o n)) ws
unfolding step same
forth-no-mountain o n ws e =
    let none : n ≡ no_name = empty-name-is n e in
    rw (none, no-mountain-words) (walk_step (at_eruption o) (at_position o no_name) (bytes "PSN") ws refl)

forth-some-mountain : (o : ToArea) (n : Name) (ws : List (List ℕ)) → good_name true mountain_limit n ≡ true
    → walk (goes (at_eruption o)) (mount_words n ++ (bytes "PSN" ∷ ws)) ≡ walk (goes (at_position o n)) ws
unfolding step same
forth-some-mountain o n ws g =
    let t : List ℕ = take n.count n.bytes in
    let some : empty_name n ≡ false = good-name-some true mountain_limit (lit< tt) n g in
    let whole : n ≡ name_of t = good-name-is true mountain_limit (lit< tt) n g in
    rw some
    (walk_step (at_eruption o) (at_mountain o) (bytes "MT") (pieces t ++ (bytes "PSN" ∷ ws)) refl
    ∙ (forth-name true mountain_limit (at_more_mountain o) (mountain-on o) (at_mountain o) (mountain-first o) t (bytes "PSN" ∷ ws) (good-name-ok true mountain_limit (lit< tt) n g)
    ∙ (walk_step (at_more_mountain o t) (at_position o (name_of t)) (bytes "PSN") ws refl ∙ ap (λ (m : Name). walk (goes (at_position o m)) ws) (sym whole))))

-- a good volcano
module _ (v : Volcano) (g : good_volcano v ≡ true) where
  latitude-step : (o : ToArea) → step (at_position o v.name) (spell_coordinate north_south v.position.latitude) ≡ goes (at_position_longitude o v.name v.position.latitude)
  unfolding step
  latitude-step o = let k = (volcano-parts v g).latitude in rw (latitude-reads.forth v.position.latitude k, k)

  longitude-step : (o : ToArea) → step (at_position_longitude o v.name v.position.latitude) (spell_coordinate east_west v.position.longitude) ≡ goes (at_volcano_ash o v)
  unfolding step
  longitude-step o = let k = (volcano-parts v g).longitude in rw (longitude-reads.forth v.position.longitude k, k)

  forth-mountain : (o : ToArea) (ws : List (List ℕ)) → walk (goes (at_eruption o)) (mount_words v.name ++ (bytes "PSN" ∷ ws)) ≡ walk (goes (at_position o v.name)) ws
  forth-mountain o ws =
      either-cases (empty_name v.name) (good_name true mountain_limit v.name) (volcano-parts v g).name (forth-no-mountain o v.name ws) (forth-some-mountain o v.name ws)

  -- the point and `VA CLD`
  forth-position : (o : ToArea) (ws : List (List ℕ))
      → walk (goes (at_position o v.name)) (point_words v.position ++ (bytes "VA" ∷ bytes "CLD" ∷ ws)) ≡ walk (goes (at_observation (erupted o v))) ws
  unfolding step same
  forth-position o ws =
      let latitude : List ℕ = spell_coordinate north_south v.position.latitude in
      let longitude : List ℕ = spell_coordinate east_west v.position.longitude in
      let name : Name = v.name in
      let c : Coordinate = v.position.latitude in
      walk_step (at_position o name) (at_position_longitude o name c) latitude (longitude ∷ bytes "VA" ∷ bytes "CLD" ∷ ws) (latitude-step o)
      ∙ (walk_step (at_position_longitude o name c) (at_volcano_ash o v) longitude (bytes "VA" ∷ bytes "CLD" ∷ ws) (longitude-step o)
      ∙ (walk_step (at_volcano_ash o v) (at_volcano_cloud o v) (bytes "VA") (bytes "CLD" ∷ ws) refl
      ∙ walk_step (at_volcano_cloud o v) (at_observation (erupted o v)) (bytes "CLD") ws refl))

  pub forth-eruption : (o : ToArea) (ws : List (List ℕ)) → kind_of o ≡ wv
      → walk (goes (at_form o)) (phenomenon_words eruption v ++ ws) ≡ walk (goes (at_observation (erupted o v))) ws
  unfolding step same phenomenon_words phenomena
  forth-eruption o ws k =
      let point : List (List ℕ) = point_words v.position ++ (bytes "VA" ∷ bytes "CLD" ∷ []) in
      let rest : List (List ℕ) = (mount_words v.name ++ (bytes "PSN" ∷ point)) ++ ws in
      walk_step (at_form o) (at_ash o) (bytes "VA") (bytes "ERUPTION" ∷ rest) (form-step o k)
      ∙ (walk_step (at_ash o) (at_eruption o) (bytes "ERUPTION") rest refl
      ∙ (ap (walk (goes (at_eruption o))) (append_assoc (mount_words v.name) (bytes "PSN" ∷ point) ws)
      ∙ (forth-mountain o (point ++ ws) ∙ forth-position o ws)))

pub forth-cloud : (o : ToArea) (ws : List (List ℕ)) → kind_of o ≡ wv
    → walk (goes (at_form o)) (phenomenon_words ash_cloud no_volcano ++ ws) ≡ walk (goes (at_observation (weather o ash_cloud))) ws
unfolding step same phenomenon_words phenomena
forth-cloud o ws k =
    walk_step (at_form o) (at_ash o) (bytes "VA") (bytes "CLD" ∷ ws) (form-step o k) ∙ walk_step (at_ash o) (at_observation (weather o ash_cloud)) (bytes "CLD") ws refl

-- Plain.

plain-mountain : (n : Name) → MountainOk n → all_of plain_word (mount_words n) ≡ true
unfolding all_of allowed
plain-mountain n ok =
    either-cases (empty_name n) (good_name true mountain_limit n) ok (λ e. rw e)
    (λ g. rw (good-name-some true mountain_limit (lit< tt) n g) (good-name-plain true mountain_limit (lit< tt) n g))

pub plain-volcano : (v : Volcano) → good_volcano v ≡ true → all_of plain_word (phenomenon_words eruption v) ≡ true
unfolding phenomenon_words phenomena all_of allowed
plain-volcano v g =
    let parts = volcano-parts v g in
    all_append plain_word (mount_words v.name) (bytes "PSN" ∷ (point_words v.position ++ (bytes "VA" ∷ bytes "CLD" ∷ [])))
    ∙ both_true (plain-mountain v.name parts.name)
    (both_true (latitude-plain v.position.latitude parts.latitude)
    (both_true (longitude-plain v.position.longitude parts.longitude) refl))
