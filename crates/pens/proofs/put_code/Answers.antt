-- `put_code` meets its contract: what stands behind the first byte that is not 0 is the word.
use Rattle.pens.proofs.CodeBytes.{no_one, behind-one}
use Rattle.pens.proofs.put_code.Goals as goal

pub returns-in_default : goal.returns-in_default
returns-in_default c = no_one c.args.code c.ranges.code.fits c.to_be_bytes-bytes.ensures c.one_of.ensures c.in_default.is

pub returns : goal.returns
returns c = behind-one c.args.code c.in-Some.one c.ranges.code.fits c.to_be_bytes-bytes.ensures c.one_of.ensures c.in-Some.is c.put_all.ensures
