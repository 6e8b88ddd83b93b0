-- Demand 1, of every public function of every library: two replies that its contract allows on the same arguments are equal (`Determines`), and
-- where a buffer is lent to it, what is left there too (`Settles`). One row for each, in the order of the crates. `ps` are the parameters and `r`
-- the reply by their kinds, `Learnt` is the contract's `ensures`: three generated names for each function, and nothing else is used of it.
-- tests/public-functions holds the rows against the code.
-- Believed.
use Rattle.lists.specs.Determined.{Determines, Settles}
use Rattle.lists.proofs.both.Kinds as lists-both-kinds
use Rattle.lists.proofs.both.Reads as lists-both-reads
use Rattle.lists.proofs.either.Kinds as lists-either-kinds
use Rattle.lists.proofs.either.Reads as lists-either-reads
use Rattle.words.proofs.is_letter.Kinds as words-is-letter-kinds
use Rattle.words.proofs.is_letter.Reads as words-is-letter-reads
use Rattle.words.proofs.is_digit.Kinds as words-is-digit-kinds
use Rattle.words.proofs.is_digit.Reads as words-is-digit-reads
use Rattle.words.proofs.check.Kinds as words-check-kinds
use Rattle.words.proofs.check.Reads as words-check-reads
use Rattle.words.proofs.word_at.Kinds as words-word-at-kinds
use Rattle.words.proofs.word_at.Reads as words-word-at-reads
use Rattle.words.proofs.length_at.Kinds as words-length-at-kinds
use Rattle.words.proofs.length_at.Reads as words-length-at-reads
use Rattle.figures.proofs.letters.Kinds as figures-letters-kinds
use Rattle.figures.proofs.letters.Reads as figures-letters-reads
use Rattle.figures.proofs.figures.Kinds as figures-figures-kinds
use Rattle.figures.proofs.figures.Reads as figures-figures-reads
use Rattle.figures.proofs.two.Kinds as figures-two-kinds
use Rattle.figures.proofs.two.Reads as figures-two-reads
use Rattle.figures.proofs.three.Kinds as figures-three-kinds
use Rattle.figures.proofs.three.Reads as figures-three-reads
use Rattle.figures.proofs.code.Kinds as figures-code-kinds
use Rattle.figures.proofs.code.Reads as figures-code-reads
use Rattle.figures.proofs.find.Kinds as figures-find-kinds
use Rattle.figures.proofs.find.Reads as figures-find-reads
use Rattle.vocabulary.proofs.same_word.Kinds as vocabulary-same-word-kinds
use Rattle.vocabulary.proofs.same_word.Reads as vocabulary-same-word-reads
use Rattle.coordinates.proofs.latitude.Kinds as coordinates-latitude-kinds
use Rattle.coordinates.proofs.latitude.Reads as coordinates-latitude-reads
use Rattle.coordinates.proofs.longitude.Kinds as coordinates-longitude-kinds
use Rattle.coordinates.proofs.longitude.Reads as coordinates-longitude-reads
use Rattle.coordinates.proofs.good_latitude.Kinds as coordinates-good-latitude-kinds
use Rattle.coordinates.proofs.good_latitude.Reads as coordinates-good-latitude-reads
use Rattle.coordinates.proofs.good_longitude.Kinds as coordinates-good-longitude-kinds
use Rattle.coordinates.proofs.good_longitude.Reads as coordinates-good-longitude-reads
use Rattle.coordinates.proofs.empty_coordinate.Kinds as coordinates-empty-coordinate-kinds
use Rattle.coordinates.proofs.empty_coordinate.Reads as coordinates-empty-coordinate-reads
use Rattle.coordinates.proofs.signed.Kinds as coordinates-signed-kinds
use Rattle.coordinates.proofs.signed.Reads as coordinates-signed-reads
use Rattle.coordinates.proofs.same_point.Kinds as coordinates-same-point-kinds
use Rattle.coordinates.proofs.same_point.Reads as coordinates-same-point-reads
use Rattle.coordinates.proofs.good_point.Kinds as coordinates-good-point-kinds
use Rattle.coordinates.proofs.good_point.Reads as coordinates-good-point-reads
use Rattle.coordinates.proofs.empty_point.Kinds as coordinates-empty-point-kinds
use Rattle.coordinates.proofs.empty_point.Reads as coordinates-empty-point-reads
use Rattle.coordinates.proofs.same_latitude.Kinds as coordinates-same-latitude-kinds
use Rattle.coordinates.proofs.same_latitude.Reads as coordinates-same-latitude-reads
use Rattle.groups.proofs.good_group.Kinds as groups-good-group-kinds
use Rattle.groups.proofs.good_group.Reads as groups-good-group-reads
use Rattle.groups.proofs.same_group.Kinds as groups-same-group-kinds
use Rattle.groups.proofs.same_group.Reads as groups-same-group-reads
use Rattle.groups.proofs.group_word.Kinds as groups-group-word-kinds
use Rattle.groups.proofs.group_word.Reads as groups-group-word-reads
use Rattle.groups.proofs.good_period.Kinds as groups-good-period-kinds
use Rattle.groups.proofs.good_period.Reads as groups-good-period-reads
use Rattle.groups.proofs.period_word.Kinds as groups-period-word-kinds
use Rattle.groups.proofs.period_word.Reads as groups-period-word-reads
use Rattle.groups.proofs.good_time.Kinds as groups-good-time-kinds
use Rattle.groups.proofs.good_time.Reads as groups-good-time-reads
use Rattle.groups.proofs.time_word.Kinds as groups-time-word-kinds
use Rattle.groups.proofs.time_word.Reads as groups-time-word-reads
use Rattle.headings.proofs.two_letters.Kinds as headings-two-letters-kinds
use Rattle.headings.proofs.two_letters.Reads as headings-two-letters-reads
use Rattle.headings.proofs.four_letters.Kinds as headings-four-letters-kinds
use Rattle.headings.proofs.four_letters.Reads as headings-four-letters-reads
use Rattle.headings.proofs.good_designator.Kinds as headings-good-designator-kinds
use Rattle.headings.proofs.good_designator.Reads as headings-good-designator-reads
use Rattle.headings.proofs.designator_word.Kinds as headings-designator-word-kinds
use Rattle.headings.proofs.designator_word.Reads as headings-designator-word-reads
use Rattle.headings.proofs.good_correction.Kinds as headings-good-correction-kinds
use Rattle.headings.proofs.good_correction.Reads as headings-good-correction-reads
use Rattle.headings.proofs.correction_word.Kinds as headings-correction-word-kinds
use Rattle.headings.proofs.correction_word.Reads as headings-correction-word-reads
use Rattle.headings.proofs.office_word.Kinds as headings-office-word-kinds
use Rattle.headings.proofs.office_word.Reads as headings-office-word-reads
use Rattle.headings.proofs.good_sequence.Kinds as headings-good-sequence-kinds
use Rattle.headings.proofs.good_sequence.Reads as headings-good-sequence-reads
use Rattle.headings.proofs.sequence_word.Kinds as headings-sequence-word-kinds
use Rattle.headings.proofs.sequence_word.Reads as headings-sequence-word-reads
use Rattle.names.proofs.name_word.Kinds as names-name-word-kinds
use Rattle.names.proofs.name_word.Reads as names-name-word-reads
use Rattle.names.proofs.closing_word.Kinds as names-closing-word-kinds
use Rattle.names.proofs.closing_word.Reads as names-closing-word-reads
use Rattle.names.proofs.in_name.Kinds as names-in-name-kinds
use Rattle.names.proofs.in_name.Reads as names-in-name-reads
use Rattle.names.proofs.name_text.Kinds as names-name-text-kinds
use Rattle.names.proofs.name_text.Reads as names-name-text-reads
use Rattle.levels.proofs.feet_figures.Kinds as levels-feet-figures-kinds
use Rattle.levels.proofs.feet_figures.Reads as levels-feet-figures-reads
use Rattle.levels.proofs.level_word.Kinds as levels-level-word-kinds
use Rattle.levels.proofs.level_word.Reads as levels-level-word-reads
use Rattle.levels.proofs.good_level.Kinds as levels-good-level-kinds
use Rattle.levels.proofs.good_level.Reads as levels-good-level-reads
use Rattle.levels.proofs.empty_level.Kinds as levels-empty-level-kinds
use Rattle.levels.proofs.empty_level.Reads as levels-empty-level-reads
use Rattle.motions.proofs.compass_word.Kinds as motions-compass-word-kinds
use Rattle.motions.proofs.compass_word.Reads as motions-compass-word-reads
use Rattle.motions.proofs.intensity_word.Kinds as motions-intensity-word-kinds
use Rattle.motions.proofs.intensity_word.Reads as motions-intensity-word-reads
use Rattle.motions.proofs.good_speed.Kinds as motions-good-speed-kinds
use Rattle.motions.proofs.good_speed.Reads as motions-good-speed-reads
use Rattle.motions.proofs.speed_word.Kinds as motions-speed-word-kinds
use Rattle.motions.proofs.speed_word.Reads as motions-speed-word-reads
use Rattle.pens.proofs.refused.Kinds as pens-refused-kinds
use Rattle.pens.proofs.refused.Reads as pens-refused-reads
use Rattle.pens.proofs.put.Kinds as pens-put-kinds
use Rattle.pens.proofs.put.Reads as pens-put-reads
use Rattle.pens.proofs.put_all.Kinds as pens-put-all-kinds
use Rattle.pens.proofs.put_all.Reads as pens-put-all-reads
use Rattle.pens.proofs.put_word.Kinds as pens-put-word-kinds
use Rattle.pens.proofs.put_word.Reads as pens-put-word-reads
use Rattle.pens.proofs.put_figures.Kinds as pens-put-figures-kinds
use Rattle.pens.proofs.put_figures.Reads as pens-put-figures-reads
use Rattle.pens.proofs.put_big_endian.Kinds as pens-put-big-endian-kinds
use Rattle.pens.proofs.put_big_endian.Reads as pens-put-big-endian-reads
use Rattle.pens.proofs.put_code.Kinds as pens-put-code-kinds
use Rattle.pens.proofs.put_code.Reads as pens-put-code-reads
use Rattle.pens.proofs.put_fixed.Kinds as pens-put-fixed-kinds
use Rattle.pens.proofs.put_fixed.Reads as pens-put-fixed-reads
use Rattle.calendar.proofs.limit_of.Kinds as calendar-limit-of-kinds
use Rattle.calendar.proofs.limit_of.Reads as calendar-limit-of-reads
use Rattle.calendar.proofs.start_of.Kinds as calendar-start-of-kinds
use Rattle.calendar.proofs.start_of.Reads as calendar-start-of-reads
use Rattle.calendar.proofs.end_of.Kinds as calendar-end-of-kinds
use Rattle.calendar.proofs.end_of.Reads as calendar-end-of-reads
use Rattle.calendar.proofs.target_of.Kinds as calendar-target-of-kinds
use Rattle.calendar.proofs.target_of.Reads as calendar-target-of-reads
use Rattle.message.proofs.is_good.Kinds as message-is-good-kinds
use Rattle.message.proofs.is_good.Reads as message-is-good-reads
use Rattle.message.proofs.names_itself.Kinds as message-names-itself-kinds
use Rattle.message.proofs.names_itself.Reads as message-names-itself-reads
use Rattle.grammar.proofs.refusal.Kinds as grammar-refusal-kinds
use Rattle.grammar.proofs.refusal.Reads as grammar-refusal-reads
use Rattle.reader_sections.proofs.read_text.Kinds as reader-sections-read-text-kinds
use Rattle.reader_sections.proofs.read_text.Reads as reader-sections-read-text-reads
use Rattle.reader.proofs.read.Kinds as reader-read-kinds
use Rattle.reader.proofs.read.Reads as reader-read-reads
use Rattle.writer_sections.proofs.put_text.Kinds as writer-sections-put-text-kinds
use Rattle.writer_sections.proofs.put_text.Reads as writer-sections-put-text-reads
use Rattle.writer.proofs.write.Kinds as writer-write-kinds
use Rattle.writer.proofs.write.Reads as writer-write-reads
use Rattle.places.proofs.same_identity.Kinds as places-same-identity-kinds
use Rattle.places.proofs.same_identity.Reads as places-same-identity-reads
use Rattle.places.proofs.no_place.Kinds as places-no-place-kinds
use Rattle.places.proofs.no_place.Reads as places-no-place-reads
use Rattle.places.proofs.empty_place.Kinds as places-empty-place-kinds
use Rattle.places.proofs.empty_place.Reads as places-empty-place-reads
use Rattle.places.proofs.good_place.Kinds as places-good-place-kinds
use Rattle.places.proofs.good_place.Reads as places-good-place-reads
use Rattle.places.proofs.claim_of.Kinds as places-claim-of-kinds
use Rattle.places.proofs.claim_of.Reads as places-claim-of-reads
use Rattle.places.proofs.Refusal.number.Kinds as places-number-kinds
use Rattle.places.proofs.Refusal.number.Reads as places-number-reads
use Rattle.board.proofs.Board.new.Kinds as board-new-kinds
use Rattle.board.proofs.Board.new.Reads as board-new-reads
use Rattle.board.proofs.Board.is_good.Kinds as board-is-good-kinds
use Rattle.board.proofs.Board.is_good.Reads as board-is-good-reads
use Rattle.board.proofs.Board.refusal_at.Kinds as board-refusal-at-kinds
use Rattle.board.proofs.Board.refusal_at.Reads as board-refusal-at-reads
use Rattle.board.proofs.Board.post.Kinds as board-post-kinds
use Rattle.board.proofs.Board.post.Reads as board-post-reads
use Rattle.listing.proofs.list.Kinds as listing-list-kinds
use Rattle.listing.proofs.list.Reads as listing-list-reads

pub record Functions : Type 0 where
  -- lists
  pub lists-both : Determines 0 lists-both-kinds.ps lists-both-kinds.r lists-both-reads.Learnt
  pub lists-either : Determines 0 lists-either-kinds.ps lists-either-kinds.r lists-either-reads.Learnt
  -- words
  pub words-is-letter : Determines 0 words-is-letter-kinds.ps words-is-letter-kinds.r words-is-letter-reads.Learnt
  pub words-is-digit : Determines 0 words-is-digit-kinds.ps words-is-digit-kinds.r words-is-digit-reads.Learnt
  pub words-check : Determines 1 words-check-kinds.ps words-check-kinds.r words-check-reads.Learnt
  pub words-word-at : Determines 1 words-word-at-kinds.ps words-word-at-kinds.r words-word-at-reads.Learnt
  pub words-length-at : Determines 1 words-length-at-kinds.ps words-length-at-kinds.r words-length-at-reads.Learnt
  -- figures
  pub figures-letters : Determines 1 figures-letters-kinds.ps figures-letters-kinds.r figures-letters-reads.Learnt
  pub figures-figures : Determines 1 figures-figures-kinds.ps figures-figures-kinds.r figures-figures-reads.Learnt
  pub figures-two : Determines 1 figures-two-kinds.ps figures-two-kinds.r figures-two-reads.Learnt
  pub figures-three : Determines 1 figures-three-kinds.ps figures-three-kinds.r figures-three-reads.Learnt
  pub figures-code : Determines 1 figures-code-kinds.ps figures-code-kinds.r figures-code-reads.Learnt
  pub figures-find : Determines 1 figures-find-kinds.ps figures-find-kinds.r figures-find-reads.Learnt
  -- vocabulary
  pub vocabulary-same-word : Determines 2 vocabulary-same-word-kinds.ps vocabulary-same-word-kinds.r vocabulary-same-word-reads.Learnt
  -- coordinates
  pub coordinates-latitude : Determines 1 coordinates-latitude-kinds.ps coordinates-latitude-kinds.r coordinates-latitude-reads.Learnt
  pub coordinates-longitude : Determines 1 coordinates-longitude-kinds.ps coordinates-longitude-kinds.r coordinates-longitude-reads.Learnt
  pub coordinates-good-latitude : Determines 0 coordinates-good-latitude-kinds.ps coordinates-good-latitude-kinds.r coordinates-good-latitude-reads.Learnt
  pub coordinates-good-longitude : Determines 0 coordinates-good-longitude-kinds.ps coordinates-good-longitude-kinds.r coordinates-good-longitude-reads.Learnt
  pub coordinates-empty-coordinate : Determines 0 coordinates-empty-coordinate-kinds.ps coordinates-empty-coordinate-kinds.r coordinates-empty-coordinate-reads.Learnt
  pub coordinates-signed : Determines 0 coordinates-signed-kinds.ps coordinates-signed-kinds.r coordinates-signed-reads.Learnt
  pub coordinates-same-point : Determines 0 coordinates-same-point-kinds.ps coordinates-same-point-kinds.r coordinates-same-point-reads.Learnt
  pub coordinates-good-point : Determines 0 coordinates-good-point-kinds.ps coordinates-good-point-kinds.r coordinates-good-point-reads.Learnt
  pub coordinates-empty-point : Determines 0 coordinates-empty-point-kinds.ps coordinates-empty-point-kinds.r coordinates-empty-point-reads.Learnt
  pub coordinates-same-latitude : Determines 0 coordinates-same-latitude-kinds.ps coordinates-same-latitude-kinds.r coordinates-same-latitude-reads.Learnt
  -- groups
  pub groups-good-group : Determines 0 groups-good-group-kinds.ps groups-good-group-kinds.r groups-good-group-reads.Learnt
  pub groups-same-group : Determines 0 groups-same-group-kinds.ps groups-same-group-kinds.r groups-same-group-reads.Learnt
  pub groups-group-word : Determines 1 groups-group-word-kinds.ps groups-group-word-kinds.r groups-group-word-reads.Learnt
  pub groups-good-period : Determines 0 groups-good-period-kinds.ps groups-good-period-kinds.r groups-good-period-reads.Learnt
  pub groups-period-word : Determines 1 groups-period-word-kinds.ps groups-period-word-kinds.r groups-period-word-reads.Learnt
  pub groups-good-time : Determines 0 groups-good-time-kinds.ps groups-good-time-kinds.r groups-good-time-reads.Learnt
  pub groups-time-word : Determines 1 groups-time-word-kinds.ps groups-time-word-kinds.r groups-time-word-reads.Learnt
  -- headings
  pub headings-two-letters : Determines 0 headings-two-letters-kinds.ps headings-two-letters-kinds.r headings-two-letters-reads.Learnt
  pub headings-four-letters : Determines 0 headings-four-letters-kinds.ps headings-four-letters-kinds.r headings-four-letters-reads.Learnt
  pub headings-good-designator : Determines 0 headings-good-designator-kinds.ps headings-good-designator-kinds.r headings-good-designator-reads.Learnt
  pub headings-designator-word : Determines 1 headings-designator-word-kinds.ps headings-designator-word-kinds.r headings-designator-word-reads.Learnt
  pub headings-good-correction : Determines 0 headings-good-correction-kinds.ps headings-good-correction-kinds.r headings-good-correction-reads.Learnt
  pub headings-correction-word : Determines 1 headings-correction-word-kinds.ps headings-correction-word-kinds.r headings-correction-word-reads.Learnt
  pub headings-office-word : Determines 1 headings-office-word-kinds.ps headings-office-word-kinds.r headings-office-word-reads.Learnt
  pub headings-good-sequence : Determines 0 headings-good-sequence-kinds.ps headings-good-sequence-kinds.r headings-good-sequence-reads.Learnt
  pub headings-sequence-word : Determines 1 headings-sequence-word-kinds.ps headings-sequence-word-kinds.r headings-sequence-word-reads.Learnt
  -- names
  pub names-name-word : Determines 1 names-name-word-kinds.ps names-name-word-kinds.r names-name-word-reads.Learnt
  pub names-closing-word : Determines 1 names-closing-word-kinds.ps names-closing-word-kinds.r names-closing-word-reads.Learnt
  pub names-in-name : Determines 1 names-in-name-kinds.ps names-in-name-kinds.r names-in-name-reads.Learnt
  pub names-name-text : Determines 1 names-name-text-kinds.ps names-name-text-kinds.r names-name-text-reads.Learnt
  -- levels
  pub levels-feet-figures : Determines 0 levels-feet-figures-kinds.ps levels-feet-figures-kinds.r levels-feet-figures-reads.Learnt
  pub levels-level-word : Determines 1 levels-level-word-kinds.ps levels-level-word-kinds.r levels-level-word-reads.Learnt
  pub levels-good-level : Determines 0 levels-good-level-kinds.ps levels-good-level-kinds.r levels-good-level-reads.Learnt
  pub levels-empty-level : Determines 0 levels-empty-level-kinds.ps levels-empty-level-kinds.r levels-empty-level-reads.Learnt
  -- motions
  pub motions-compass-word : Determines 1 motions-compass-word-kinds.ps motions-compass-word-kinds.r motions-compass-word-reads.Learnt
  pub motions-intensity-word : Determines 1 motions-intensity-word-kinds.ps motions-intensity-word-kinds.r motions-intensity-word-reads.Learnt
  pub motions-good-speed : Determines 0 motions-good-speed-kinds.ps motions-good-speed-kinds.r motions-good-speed-reads.Learnt
  pub motions-speed-word : Determines 1 motions-speed-word-kinds.ps motions-speed-word-kinds.r motions-speed-word-reads.Learnt
  -- pens
  pub pens-refused : Determines 0 pens-refused-kinds.ps pens-refused-kinds.r pens-refused-reads.Learnt
  pub pens-put : Settles 1 pens-put-kinds.ps pens-put-kinds.r pens-put-reads.Learnt
  pub pens-put-all : Settles 2 pens-put-all-kinds.ps pens-put-all-kinds.r pens-put-all-reads.Learnt
  pub pens-put-word : Settles 2 pens-put-word-kinds.ps pens-put-word-kinds.r pens-put-word-reads.Learnt
  pub pens-put-figures : Settles 1 pens-put-figures-kinds.ps pens-put-figures-kinds.r pens-put-figures-reads.Learnt
  pub pens-put-big-endian : Settles 1 pens-put-big-endian-kinds.ps pens-put-big-endian-kinds.r pens-put-big-endian-reads.Learnt
  pub pens-put-code : Settles 1 pens-put-code-kinds.ps pens-put-code-kinds.r pens-put-code-reads.Learnt
  pub pens-put-fixed : Settles 1 pens-put-fixed-kinds.ps pens-put-fixed-kinds.r pens-put-fixed-reads.Learnt
  -- calendar
  pub calendar-limit-of : Determines 0 calendar-limit-of-kinds.ps calendar-limit-of-kinds.r calendar-limit-of-reads.Learnt
  pub calendar-start-of : Determines 0 calendar-start-of-kinds.ps calendar-start-of-kinds.r calendar-start-of-reads.Learnt
  pub calendar-end-of : Determines 0 calendar-end-of-kinds.ps calendar-end-of-kinds.r calendar-end-of-reads.Learnt
  pub calendar-target-of : Determines 0 calendar-target-of-kinds.ps calendar-target-of-kinds.r calendar-target-of-reads.Learnt
  -- message
  pub message-is-good : Determines 0 message-is-good-kinds.ps message-is-good-kinds.r message-is-good-reads.Learnt
  pub message-names-itself : Determines 0 message-names-itself-kinds.ps message-names-itself-kinds.r message-names-itself-reads.Learnt
  -- grammar
  pub grammar-refusal : Determines 0 grammar-refusal-kinds.ps grammar-refusal-kinds.r grammar-refusal-reads.Learnt
  -- reader_sections
  pub reader-sections-read-text : Determines 1 reader-sections-read-text-kinds.ps reader-sections-read-text-kinds.r reader-sections-read-text-reads.Learnt
  -- reader
  pub reader-read : Determines 1 reader-read-kinds.ps reader-read-kinds.r reader-read-reads.Learnt
  -- writer_sections
  pub writer-sections-put-text : Settles 1 writer-sections-put-text-kinds.ps writer-sections-put-text-kinds.r writer-sections-put-text-reads.Learnt
  -- writer
  pub writer-write : Settles 1 writer-write-kinds.ps writer-write-kinds.r writer-write-reads.Learnt
  -- places
  pub places-same-identity : Determines 0 places-same-identity-kinds.ps places-same-identity-kinds.r places-same-identity-reads.Learnt
  pub places-no-place : Determines 0 places-no-place-kinds.ps places-no-place-kinds.r places-no-place-reads.Learnt
  pub places-empty-place : Determines 0 places-empty-place-kinds.ps places-empty-place-kinds.r places-empty-place-reads.Learnt
  pub places-good-place : Determines 0 places-good-place-kinds.ps places-good-place-kinds.r places-good-place-reads.Learnt
  pub places-claim-of : Determines 0 places-claim-of-kinds.ps places-claim-of-kinds.r places-claim-of-reads.Learnt
  pub places-number : Determines 0 places-number-kinds.ps places-number-kinds.r places-number-reads.Learnt
  -- board
  pub board-new : Determines 0 board-new-kinds.ps board-new-kinds.r board-new-reads.Learnt
  pub board-is-good : Determines 0 board-is-good-kinds.ps board-is-good-kinds.r board-is-good-reads.Learnt
  pub board-refusal-at : Determines 0 board-refusal-at-kinds.ps board-refusal-at-kinds.r board-refusal-at-reads.Learnt
  pub board-post : Determines 0 board-post-kinds.ps board-post-kinds.r board-post-reads.Learnt
  -- listing
  pub listing-list : Settles 1 listing-list-kinds.ps listing-list-kinds.r listing-list-reads.Learnt
