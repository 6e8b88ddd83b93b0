-- Every public function's contract determines its outcome: the laws that stand beside each, in one table.
use Rattle.lists.proofs.Determined as lists-laws
use Rattle.words.proofs.Determined as words-laws
use Rattle.figures.proofs.Determined as figures-laws
use Rattle.vocabulary.proofs.Determined as vocabulary-laws
use Rattle.coordinates.proofs.Determined as coordinates-laws
use Rattle.groups.proofs.Determined as groups-laws
use Rattle.headings.proofs.Determined as headings-laws
use Rattle.names.proofs.Determined as names-laws
use Rattle.levels.proofs.Determined as levels-laws
use Rattle.motions.proofs.Determined as motions-laws
use Rattle.pens.proofs.Determined as pens-laws
use Rattle.calendar.proofs.Determined as calendar-laws
use Rattle.message.proofs.Determined as message-laws
use Rattle.grammar.proofs.Determined as grammar-laws
use Rattle.reader_sections.proofs.Determined as reader-sections-laws
use Rattle.reader.proofs.Determined as reader-laws
use Rattle.writer_sections.proofs.Determined as writer-sections-laws
use Rattle.writer.proofs.Determined as writer-laws
use Rattle.places.proofs.Determined as places-laws
use Rattle.board.proofs.Determined as board-laws
use Rattle.listing.proofs.Determined as listing-laws
use Rattle.promises.specs.Functions.{Functions}

pub functions : Functions
functions =
    record {
      lists-both = lists-laws.both-determined;
      lists-either = lists-laws.either-determined;
      words-is-letter = words-laws.is-letter-determined;
      words-is-digit = words-laws.is-digit-determined;
      words-check = words-laws.check-determined;
      words-word-at = words-laws.word-at-determined;
      words-length-at = words-laws.length-at-determined;
      figures-letters = figures-laws.letters-determined;
      figures-figures = figures-laws.figures-determined;
      figures-two = figures-laws.two-determined;
      figures-three = figures-laws.three-determined;
      figures-code = figures-laws.code-determined;
      figures-find = figures-laws.find-determined;
      vocabulary-same-word = vocabulary-laws.same-word-determined;
      coordinates-latitude = coordinates-laws.latitude-determined;
      coordinates-longitude = coordinates-laws.longitude-determined;
      coordinates-good-latitude = coordinates-laws.good-latitude-determined;
      coordinates-good-longitude = coordinates-laws.good-longitude-determined;
      coordinates-empty-coordinate = coordinates-laws.empty-coordinate-determined;
      coordinates-signed = coordinates-laws.signed-determined;
      coordinates-same-point = coordinates-laws.same-point-determined;
      coordinates-good-point = coordinates-laws.good-point-determined;
      coordinates-empty-point = coordinates-laws.empty-point-determined;
      coordinates-same-latitude = coordinates-laws.same-latitude-determined;
      groups-good-group = groups-laws.good-group-determined;
      groups-same-group = groups-laws.same-group-determined;
      groups-group-word = groups-laws.group-word-determined;
      groups-good-period = groups-laws.good-period-determined;
      groups-period-word = groups-laws.period-word-determined;
      groups-good-time = groups-laws.good-time-determined;
      groups-time-word = groups-laws.time-word-determined;
      headings-two-letters = headings-laws.two-letters-determined;
      headings-four-letters = headings-laws.four-letters-determined;
      headings-good-designator = headings-laws.good-designator-determined;
      headings-designator-word = headings-laws.designator-word-determined;
      headings-good-correction = headings-laws.good-correction-determined;
      headings-correction-word = headings-laws.correction-word-determined;
      headings-office-word = headings-laws.office-word-determined;
      headings-good-sequence = headings-laws.good-sequence-determined;
      headings-sequence-word = headings-laws.sequence-word-determined;
      names-name-word = names-laws.name-word-determined;
      names-closing-word = names-laws.closing-word-determined;
      names-in-name = names-laws.in-name-determined;
      names-name-text = names-laws.name-text-determined;
      levels-feet-figures = levels-laws.feet-figures-determined;
      levels-level-word = levels-laws.level-word-determined;
      levels-good-level = levels-laws.good-level-determined;
      levels-empty-level = levels-laws.empty-level-determined;
      motions-compass-word = motions-laws.compass-word-determined;
      motions-intensity-word = motions-laws.intensity-word-determined;
      motions-good-speed = motions-laws.good-speed-determined;
      motions-speed-word = motions-laws.speed-word-determined;
      pens-refused = pens-laws.refused-determined;
      pens-put = pens-laws.put-settles;
      pens-put-all = pens-laws.put-all-settles;
      pens-put-word = pens-laws.put-word-settles;
      pens-put-figures = pens-laws.put-figures-settles;
      pens-put-big-endian = pens-laws.put-big-endian-settles;
      pens-put-code = pens-laws.put-code-settles;
      pens-put-fixed = pens-laws.put-fixed-settles;
      calendar-limit-of = calendar-laws.limit-of-determined;
      calendar-start-of = calendar-laws.start-of-determined;
      calendar-end-of = calendar-laws.end-of-determined;
      calendar-target-of = calendar-laws.target-of-determined;
      message-is-good = message-laws.is-good-determined;
      message-names-itself = message-laws.names-itself-determined;
      grammar-refusal = grammar-laws.refusal-determined;
      reader-sections-read-text = reader-sections-laws.read-text-determined;
      reader-read = reader-laws.read-determined;
      writer-sections-put-text = writer-sections-laws.put-text-settles;
      writer-write = writer-laws.write-settles;
      places-same-identity = places-laws.same-identity-determined;
      places-no-place = places-laws.no-place-determined;
      places-empty-place = places-laws.empty-place-determined;
      places-good-place = places-laws.good-place-determined;
      places-claim-of = places-laws.claim-of-determined;
      places-number = places-laws.number-determined;
      board-new = board-laws.new-determined;
      board-is-good = board-laws.is-good-determined;
      board-refusal-at = board-laws.refusal-at-determined;
      board-post = board-laws.post-determined;
      listing-list = listing-laws.list-settles;
    }
