-- The codes of the fixed words that the reader tells by their codes, as crates/vocabulary/src has them: a 1 and then the bytes of the word.
-- Internal contract.
use Rattle.std.specs.Prelude.{ℕ}

-- `SIGMET`
abbrev pub code-sigmet : ℕ
code-sigmet = 0x015349474d4554

-- `VALID`
abbrev pub code-valid : ℕ
code-valid = 0x0156414c4944

-- `FIR`
abbrev pub code-fir : ℕ
code-fir = 0x01464952

-- `CTA`
abbrev pub code-cta : ℕ
code-cta = 0x01435441

-- `TEST`
abbrev pub code-test : ℕ
code-test = 0x0154455354

-- `TEST.`
abbrev pub code-test-stop : ℕ
code-test-stop = 0x01544553542e

-- `THIS`
abbrev pub code-this : ℕ
code-this = 0x0154484953

-- `IS`
abbrev pub code_is : ℕ
code_is = 0x014953

-- `A`
abbrev pub code-a : ℕ
code-a = 0x0141

-- `SIGMET,`
abbrev pub code-sigmet-comma : ℕ
code-sigmet-comma = 0x015349474d45542c

-- `PLEASE`
abbrev pub code-please : ℕ
code-please = 0x01504c45415345

-- `CNL`
abbrev pub code-cnl : ℕ
code-cnl = 0x01434e4c

-- `TS`
abbrev pub code-ts : ℕ
code-ts = 0x015453

-- `TSGR`
abbrev pub code-tsgr : ℕ
code-tsgr = 0x0154534752

-- `SEV`
abbrev pub code-sev : ℕ
code-sev = 0x01534556

-- `TURB`
abbrev pub code-turb : ℕ
code-turb = 0x0154555242

-- `ICE`
abbrev pub code-ice : ℕ
code-ice = 0x01494345

-- `(FZRA)`
abbrev pub code-freezing-rain : ℕ
code-freezing-rain = 0x0128465a524129

-- `MTW`
abbrev pub code-mtw : ℕ
code-mtw = 0x014d5457

-- `HVY`
abbrev pub code-hvy : ℕ
code-hvy = 0x01485659

-- `DS`
abbrev pub code-ds : ℕ
code-ds = 0x014453

-- `SS`
abbrev pub code-ss : ℕ
code-ss = 0x015353

-- `RDOACT`
abbrev pub code-rdoact : ℕ
code-rdoact = 0x0152444f414354

-- `CLD`
abbrev pub code-cld : ℕ
code-cld = 0x01434c44

-- `VA`
abbrev pub code-va : ℕ
code-va = 0x015641

-- `MT`
abbrev pub code-mt : ℕ
code-mt = 0x014d54

-- `PSN`
abbrev pub code-psn : ℕ
code-psn = 0x0150534e

-- `OBS`
abbrev pub code-obs : ℕ
code-obs = 0x014f4253

-- `FCST`
abbrev pub code-fcst : ℕ
code-fcst = 0x0146435354

-- `AT`
abbrev pub code_at : ℕ
code_at = 0x014154

-- `OF`
abbrev pub code-of : ℕ
code-of = 0x014f46

-- `AND`
abbrev pub code-and : ℕ
code-and = 0x01414e44

-- `WI`
abbrev pub code-wi : ℕ
code-wi = 0x015749

-- `-`
abbrev pub code-dash : ℕ
code-dash = 0x012d

-- `ENTIRE`
abbrev pub code-entire : ℕ
code-entire = 0x01454e54495245

-- `TOP`
abbrev pub code-top : ℕ
code-top = 0x01544f50

-- `ABV`
abbrev pub code-abv : ℕ
code-abv = 0x01414256

-- `FL`
abbrev pub code-fl : ℕ
code-fl = 0x01464c

-- `SFC/`
abbrev pub code-surface : ℕ
code-surface = 0x015346432f

-- `FT`
abbrev pub code-ft : ℕ
code-ft = 0x014654

-- `MOV`
abbrev pub code-mov : ℕ
code-mov = 0x014d4f56

-- `STNR`
abbrev pub code-stnr : ℕ
code-stnr = 0x0153544e52

-- `OBSC`
abbrev pub code-obsc : ℕ
code-obsc = 0x014f425343

-- `EMBD`
abbrev pub code-embd : ℕ
code-embd = 0x01454d4244

-- `FRQ`
abbrev pub code-frq : ℕ
code-frq = 0x01465251

-- `SQL`
abbrev pub code-sql : ℕ
code-sql = 0x0153514c
