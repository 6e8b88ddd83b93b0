-- 01, "a report: phenomenon, observation, location, level, then the ending."
-- Believed.
use Rattle.std.specs.Prelude.{Bool, true, false, not, List, [], ◌∷◌, ◌++◌, ℕ, ◌-◌, eqb, get_or}
use Rattle.lists.specs.Choice.{pick, both, either}
use Rattle.lists.specs.Text.{bytes}
use Rattle.words.specs.Bytes.{between}
use Rattle.coordinates.specs.Points.{good_point, empty_point, no_point, point_words}
use Rattle.groups.specs.Groups.{good_time, spell_time}
use Rattle.levels.specs.Levels.{good_level, empty_level, level_words}
use Rattle.motions.specs.Speeds.{good_speed, spell_speed}
use Rattle.motions.specs.Motions.{good_compass, spell_compass, good_intensity, spell_intensity}
use Rattle.levels.specs.declared.Level.TheVariants.{NoLevel}
use Rattle.groups.specs.declared.Time.{Time}
use Rattle.message.specs.Limits.{mountain_limit, ws, wv, ash_cloud, eruption}
use Rattle.message.specs.Names.{good_name, empty_name, no_name, name_words}
use Rattle.message.specs.Locations.{good_extent, empty_extent, no_extent, extent_words}
use Rattle.message.specs.declared.Ending.{Ending}
use Rattle.message.specs.declared.Ending.TheVariants.{NoEnding, Moving, Stationary, Forecast}
use Rattle.message.specs.declared.Observation.{Observation}
use Rattle.message.specs.declared.Extent.{Extent}
use Rattle.message.specs.declared.Name.{Name}
use Rattle.message.specs.declared.Report.{Report}
use Rattle.message.specs.declared.Volcano.{Volcano}

-- "Phenomenon, WS: `OBSC`, `EMBD`, `FRQ` or `SQL` with `TS` or `TSGR`; `SEV TURB`; `SEV ICE`; `SEV ICE (FZRA)`; `SEV MTW`; `HVY DS`;
-- `HVY SS`; `RDOACT CLD`. WV: `VA CLD`, or `VA ERUPTION`, …": numbered from 1 in this order. The words up to where the volcano is told.
unfoldable pub phenomena : List (List (List ℕ))
phenomena =
    (bytes "OBSC" ∷ bytes "TS" ∷ [])
    ∷ (bytes "OBSC" ∷ bytes "TSGR" ∷ [])
    ∷ (bytes "EMBD" ∷ bytes "TS" ∷ [])
    ∷ (bytes "EMBD" ∷ bytes "TSGR" ∷ [])
    ∷ (bytes "FRQ" ∷ bytes "TS" ∷ [])
    ∷ (bytes "FRQ" ∷ bytes "TSGR" ∷ [])
    ∷ (bytes "SQL" ∷ bytes "TS" ∷ [])
    ∷ (bytes "SQL" ∷ bytes "TSGR" ∷ [])
    ∷ (bytes "SEV" ∷ bytes "TURB" ∷ [])
    ∷ (bytes "SEV" ∷ bytes "ICE" ∷ [])
    ∷ (bytes "SEV" ∷ bytes "ICE" ∷ bytes "(FZRA)" ∷ [])
    ∷ (bytes "SEV" ∷ bytes "MTW" ∷ [])
    ∷ (bytes "HVY" ∷ bytes "DS" ∷ [])
    ∷ (bytes "HVY" ∷ bytes "SS" ∷ [])
    ∷ (bytes "RDOACT" ∷ bytes "CLD" ∷ [])
    ∷ (bytes "VA" ∷ bytes "CLD" ∷ [])
    ∷ (bytes "VA" ∷ bytes "ERUPTION" ∷ [])
    ∷ []

-- "WV: …, or `VA ERUPTION`, perhaps `MT` and a name (…), `PSN`, a point, `VA CLD`"
unfoldable pub good_volcano : Volcano → Bool
good_volcano v = both (either (empty_name v.name) (good_name true mountain_limit v.name)) (good_point v.position)

unfoldable pub empty_volcano : Volcano → Bool
empty_volcano v = both (empty_name v.name) (empty_point v.position)

abbrev pub no_volcano : Volcano
no_volcano = record { name = no_name; position = no_point }

-- a WS has the phenomena before the cloud of ash, a WV the last two; only an eruption tells of a volcano
unfoldable pub good_phenomenon : ℕ → ℕ → Volcano → Bool
good_phenomenon kind n v =
    either (both (eqb kind ws) (both (between 1 15 n) (empty_volcano v)))
    (both (eqb kind wv) (either (both (eqb n ash_cloud) (empty_volcano v)) (both (eqb n eruption) (good_volcano v))))

-- "perhaps `MT` and a name"
abbrev pub mount_words : Name → List (List ℕ)
mount_words n = pick (empty_name n) [] (bytes "MT" ∷ name_words n)

abbrev pub volcano_words : Volcano → List (List ℕ)
volcano_words v = mount_words v.name ++ (bytes "PSN" ∷ (point_words v.position ++ (bytes "VA" ∷ bytes "CLD" ∷ [])))

unfoldable pub phenomenon_words : ℕ → Volcano → List (List ℕ)
phenomenon_words n v = get_or phenomena (n - 1) [] ++ pick (eqb n eruption) (volcano_words v) []

-- "Observation: `OBS` or `FCST`, perhaps `AT GGggZ`."
unfoldable pub good_observation : Observation → Bool
good_observation o =
    both (between 1 2 o.word) (pick o.timed (good_time o.time) (both (eqb o.time.hour 0) (eqb o.time.minute 0)))

unfoldable pub empty_observation : Observation → Bool
empty_observation o = both (not o.timed) (both (eqb o.word 0) (both (eqb o.time.hour 0) (eqb o.time.minute 0)))

-- without a time its places are zero; `no_time` is the answer for a word that is no time
abbrev pub no_observation : Observation
no_observation = record { word = 0; timed = false; time = record { hour = 0; minute = 0 } }

unfoldable pub observation_words : Observation → List (List ℕ)
observation_words o =
    pick (eqb o.word 1) (bytes "OBS") (bytes "FCST") ∷ pick o.timed (bytes "AT" ∷ spell_time o.time ∷ []) []

-- "Ending: either `MOV`, a compass point, `nnKT` or `nnKMH` (01 to 99), or `STNR`, then `INTSF`, `WKN` or `NC`; or, in WS only, the
-- intensity word first and then `FCST AT GGggZ` and a location, …. Exactly one of the two."
unfoldable pub good_ending : ℕ → Ending → Extent → Bool
good_ending kind NoEnding f = false
good_ending kind (Moving d s i) f = both (both (good_compass d) (both (good_speed s) (good_intensity i))) (empty_extent f)
good_ending kind (Stationary i) f = both (good_intensity i) (empty_extent f)
good_ending kind (Forecast i) f = both (both (eqb kind ws) (good_intensity i)) (good_extent f)

unfoldable pub empty_ending : Ending → Bool
empty_ending NoEnding = true
empty_ending (Moving d s i) = false
empty_ending (Stationary i) = false
empty_ending (Forecast i) = false

-- "the time being that of the end of VALID", the area's closing word telling what the entire area is called
unfoldable pub ending_words : Time → ℕ → Ending → Extent → List (List ℕ)
ending_words end closing NoEnding f = []
ending_words end closing (Moving d s i) f = bytes "MOV" ∷ spell_compass d ∷ spell_speed s ∷ spell_intensity i ∷ []
ending_words end closing (Stationary i) f = bytes "STNR" ∷ spell_intensity i ∷ []
ending_words end closing (Forecast i) f = spell_intensity i ∷ bytes "FCST" ∷ bytes "AT" ∷ spell_time end ∷ extent_words closing f

-- a report of a bulletin of that kind
unfoldable pub good_report : ℕ → Report → Bool
good_report kind r =
    both (good_phenomenon kind r.phenomenon r.volcano)
    (both (good_observation r.observation)
    (both (good_extent r.extent) (both (good_level r.level) (good_ending kind r.ending r.forecast))))

unfoldable pub empty_report : Report → Bool
empty_report r =
    both (both (eqb r.phenomenon 0) (empty_volcano r.volcano))
    (both (empty_observation r.observation)
    (both (empty_extent r.extent) (both (empty_level r.level) (both (empty_ending r.ending) (empty_extent r.forecast)))))

abbrev pub no_report : Report
no_report =
    record { phenomenon = 0; volcano = no_volcano; observation = no_observation; extent = no_extent; level = NoLevel; ending = NoEnding; forecast = no_extent }

unfoldable pub report_words : Time → ℕ → Report → List (List ℕ)
report_words end closing r =
    phenomenon_words r.phenomenon r.volcano
    ++ (observation_words r.observation
    ++ (extent_words closing r.extent ++ (level_words r.level ++ ending_words end closing r.ending r.forecast)))
