-- What each code is the code of. The words that are read or put by a table alone have their laws in the table's crate.
use mathlib.Core.Path.{refl}
use Rattle.lists.specs.Base.{worth_after}
use Rattle.lists.specs.Lists.{all_of, same}
use Rattle.lists.specs.Text.{bytes}
use Rattle.figures.specs.Codes.{code_of, behind_one, FixedWord}
use Rattle.vocabulary.specs.Codes.{code-sigmet, code-valid, code-fir, code-cta, code-test, code-test-stop, code-this, code_is, code-a, code-sigmet-comma, code-please, code-cnl, code-ts, code-tsgr, code-sev, code-turb, code-ice, code-freezing-rain, code-mtw, code-hvy, code-ds, code-ss, code-rdoact, code-cld, code-va, code-mt, code-psn, code-obs, code-fcst, code_at, code-of, code-and, code-wi, code-dash, code-entire, code-top, code-abv, code-fl, code-surface, code-ft, code-mov, code-stnr}

pub fixed-sigmet : FixedWord (bytes "SIGMET") code-sigmet
unfolding code_of behind_one all_of worth_after same
fixed-sigmet = record { is-short = refl; has = refl; some = refl; no_sign = refl; spelled = refl }

pub fixed-valid : FixedWord (bytes "VALID") code-valid
unfolding code_of behind_one all_of worth_after same
fixed-valid = record { is-short = refl; has = refl; some = refl; no_sign = refl; spelled = refl }

pub fixed-fir : FixedWord (bytes "FIR") code-fir
unfolding code_of behind_one all_of worth_after same
fixed-fir = record { is-short = refl; has = refl; some = refl; no_sign = refl; spelled = refl }

pub fixed-cta : FixedWord (bytes "CTA") code-cta
unfolding code_of behind_one all_of worth_after same
fixed-cta = record { is-short = refl; has = refl; some = refl; no_sign = refl; spelled = refl }

pub fixed-test : FixedWord (bytes "TEST") code-test
unfolding code_of behind_one all_of worth_after same
fixed-test = record { is-short = refl; has = refl; some = refl; no_sign = refl; spelled = refl }

pub fixed-test-stop : FixedWord (bytes "TEST.") code-test-stop
unfolding code_of behind_one all_of worth_after same
fixed-test-stop = record { is-short = refl; has = refl; some = refl; no_sign = refl; spelled = refl }

pub fixed-this : FixedWord (bytes "THIS") code-this
unfolding code_of behind_one all_of worth_after same
fixed-this = record { is-short = refl; has = refl; some = refl; no_sign = refl; spelled = refl }

pub fixed-is : FixedWord (bytes "IS") code_is
unfolding code_of behind_one all_of worth_after same
fixed-is = record { is-short = refl; has = refl; some = refl; no_sign = refl; spelled = refl }

pub fixed-a : FixedWord (bytes "A") code-a
unfolding code_of behind_one all_of worth_after same
fixed-a = record { is-short = refl; has = refl; some = refl; no_sign = refl; spelled = refl }

pub fixed-sigmet-comma : FixedWord (bytes "SIGMET,") code-sigmet-comma
unfolding code_of behind_one all_of worth_after same
fixed-sigmet-comma = record { is-short = refl; has = refl; some = refl; no_sign = refl; spelled = refl }

pub fixed-please : FixedWord (bytes "PLEASE") code-please
unfolding code_of behind_one all_of worth_after same
fixed-please = record { is-short = refl; has = refl; some = refl; no_sign = refl; spelled = refl }

pub fixed-cnl : FixedWord (bytes "CNL") code-cnl
unfolding code_of behind_one all_of worth_after same
fixed-cnl = record { is-short = refl; has = refl; some = refl; no_sign = refl; spelled = refl }

pub fixed-ts : FixedWord (bytes "TS") code-ts
unfolding code_of behind_one all_of worth_after same
fixed-ts = record { is-short = refl; has = refl; some = refl; no_sign = refl; spelled = refl }

pub fixed-tsgr : FixedWord (bytes "TSGR") code-tsgr
unfolding code_of behind_one all_of worth_after same
fixed-tsgr = record { is-short = refl; has = refl; some = refl; no_sign = refl; spelled = refl }

pub fixed-sev : FixedWord (bytes "SEV") code-sev
unfolding code_of behind_one all_of worth_after same
fixed-sev = record { is-short = refl; has = refl; some = refl; no_sign = refl; spelled = refl }

pub fixed-turb : FixedWord (bytes "TURB") code-turb
unfolding code_of behind_one all_of worth_after same
fixed-turb = record { is-short = refl; has = refl; some = refl; no_sign = refl; spelled = refl }

pub fixed-ice : FixedWord (bytes "ICE") code-ice
unfolding code_of behind_one all_of worth_after same
fixed-ice = record { is-short = refl; has = refl; some = refl; no_sign = refl; spelled = refl }

pub fixed-freezing-rain : FixedWord (bytes "(FZRA)") code-freezing-rain
unfolding code_of behind_one all_of worth_after same
fixed-freezing-rain = record { is-short = refl; has = refl; some = refl; no_sign = refl; spelled = refl }

pub fixed-mtw : FixedWord (bytes "MTW") code-mtw
unfolding code_of behind_one all_of worth_after same
fixed-mtw = record { is-short = refl; has = refl; some = refl; no_sign = refl; spelled = refl }

pub fixed-hvy : FixedWord (bytes "HVY") code-hvy
unfolding code_of behind_one all_of worth_after same
fixed-hvy = record { is-short = refl; has = refl; some = refl; no_sign = refl; spelled = refl }

pub fixed-ds : FixedWord (bytes "DS") code-ds
unfolding code_of behind_one all_of worth_after same
fixed-ds = record { is-short = refl; has = refl; some = refl; no_sign = refl; spelled = refl }

pub fixed-ss : FixedWord (bytes "SS") code-ss
unfolding code_of behind_one all_of worth_after same
fixed-ss = record { is-short = refl; has = refl; some = refl; no_sign = refl; spelled = refl }

pub fixed-rdoact : FixedWord (bytes "RDOACT") code-rdoact
unfolding code_of behind_one all_of worth_after same
fixed-rdoact = record { is-short = refl; has = refl; some = refl; no_sign = refl; spelled = refl }

pub fixed-cld : FixedWord (bytes "CLD") code-cld
unfolding code_of behind_one all_of worth_after same
fixed-cld = record { is-short = refl; has = refl; some = refl; no_sign = refl; spelled = refl }

pub fixed-va : FixedWord (bytes "VA") code-va
unfolding code_of behind_one all_of worth_after same
fixed-va = record { is-short = refl; has = refl; some = refl; no_sign = refl; spelled = refl }

pub fixed-mt : FixedWord (bytes "MT") code-mt
unfolding code_of behind_one all_of worth_after same
fixed-mt = record { is-short = refl; has = refl; some = refl; no_sign = refl; spelled = refl }

pub fixed-psn : FixedWord (bytes "PSN") code-psn
unfolding code_of behind_one all_of worth_after same
fixed-psn = record { is-short = refl; has = refl; some = refl; no_sign = refl; spelled = refl }

pub fixed-obs : FixedWord (bytes "OBS") code-obs
unfolding code_of behind_one all_of worth_after same
fixed-obs = record { is-short = refl; has = refl; some = refl; no_sign = refl; spelled = refl }

pub fixed-fcst : FixedWord (bytes "FCST") code-fcst
unfolding code_of behind_one all_of worth_after same
fixed-fcst = record { is-short = refl; has = refl; some = refl; no_sign = refl; spelled = refl }

pub fixed-at : FixedWord (bytes "AT") code_at
unfolding code_of behind_one all_of worth_after same
fixed-at = record { is-short = refl; has = refl; some = refl; no_sign = refl; spelled = refl }

pub fixed_of : FixedWord (bytes "OF") code-of
unfolding code_of behind_one all_of worth_after same
fixed_of = record { is-short = refl; has = refl; some = refl; no_sign = refl; spelled = refl }

pub fixed-and : FixedWord (bytes "AND") code-and
unfolding code_of behind_one all_of worth_after same
fixed-and = record { is-short = refl; has = refl; some = refl; no_sign = refl; spelled = refl }

pub fixed-wi : FixedWord (bytes "WI") code-wi
unfolding code_of behind_one all_of worth_after same
fixed-wi = record { is-short = refl; has = refl; some = refl; no_sign = refl; spelled = refl }

pub fixed-dash : FixedWord (bytes "-") code-dash
unfolding code_of behind_one all_of worth_after same
fixed-dash = record { is-short = refl; has = refl; some = refl; no_sign = refl; spelled = refl }

pub fixed-entire : FixedWord (bytes "ENTIRE") code-entire
unfolding code_of behind_one all_of worth_after same
fixed-entire = record { is-short = refl; has = refl; some = refl; no_sign = refl; spelled = refl }

pub fixed-top : FixedWord (bytes "TOP") code-top
unfolding code_of behind_one all_of worth_after same
fixed-top = record { is-short = refl; has = refl; some = refl; no_sign = refl; spelled = refl }

pub fixed-abv : FixedWord (bytes "ABV") code-abv
unfolding code_of behind_one all_of worth_after same
fixed-abv = record { is-short = refl; has = refl; some = refl; no_sign = refl; spelled = refl }

pub fixed-fl : FixedWord (bytes "FL") code-fl
unfolding code_of behind_one all_of worth_after same
fixed-fl = record { is-short = refl; has = refl; some = refl; no_sign = refl; spelled = refl }

pub fixed-surface : FixedWord (bytes "SFC/") code-surface
unfolding code_of behind_one all_of worth_after same
fixed-surface = record { is-short = refl; has = refl; some = refl; no_sign = refl; spelled = refl }

pub fixed-ft : FixedWord (bytes "FT") code-ft
unfolding code_of behind_one all_of worth_after same
fixed-ft = record { is-short = refl; has = refl; some = refl; no_sign = refl; spelled = refl }

pub fixed-mov : FixedWord (bytes "MOV") code-mov
unfolding code_of behind_one all_of worth_after same
fixed-mov = record { is-short = refl; has = refl; some = refl; no_sign = refl; spelled = refl }

pub fixed-stnr : FixedWord (bytes "STNR") code-stnr
unfolding code_of behind_one all_of worth_after same
fixed-stnr = record { is-short = refl; has = refl; some = refl; no_sign = refl; spelled = refl }
