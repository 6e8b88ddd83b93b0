-- `unreported` meets its contract: the `=` after what was read, or the refusal of what comes in its place.
use Rattle.message.specs.declared.Form.{Form}
use Rattle.message.specs.declared.Record.{Record}
use Rattle.message.specs.Reports.{no_report}
use Rattle.grammar.specs.Records.{formed}
use Rattle.reader_sections.specs.declared.opening.Opening.{Opening}
use Rattle.reader_sections.specs.Openings.{area_in}
use Rattle.reader_sections.proofs.Leads.{accepts, replies-err}
use Rattle.reader_sections.proofs.body.unreported.Goals as goal

abbrev bare : Opening → Form → Record
bare o f = formed (area_in o) f no_report

pub returns-in-Ok : goal.returns-in-Ok
returns-in-Ok c = λ s from l. accepts (c.in-Ok.ensures s from (bare c.args.opening) l).says c.accepted.ensures

pub returns-in-Err : goal.returns-in-Err
returns-in-Err c = λ s from l. replies-err (c.in-Err.ensures s from (bare c.args.opening) l).says c.reply.ensures
