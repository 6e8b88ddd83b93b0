-- `put_text` meets its contract: the text of a good record, and nothing of any other.
use Rattle.writer_sections.proofs.RecordLaws.{bad-record}
use Rattle.writer_sections.proofs.put_text.Goals as goal

pub returns-then-not-is_good : goal.returns-then-not-is_good
returns-then-not-is_good c = search bad-record
