-- The WS and WV examples of source document 002, with hyphens for its long dashes, laid out as canonical text.
-- Tied: `thunderstorms-read` and its neighbours (crates/cases/proofs/Examples.antt).
use Rattle.std.specs.Prelude.{List, ◌≡◌, ℕ}
use Rattle.message.specs.Words.{text_of}
use Rattle.cases.specs.Samples.{bulletin}
use Rattle.grammar.specs.Reads.{read_of}

-- the text is read, and its record's canonical text is the text itself
pub record ReadsBack (b : List ℕ) : Type 0 where
  pub number : (read_of b).number ≡ 0
  pub place : (read_of b).place ≡ 0
  pub length : (read_of b).length ≡ 0
  pub text : text_of (read_of b).message ≡ b

abbrev pub thunderstorms : List ℕ
thunderstorms =
    bulletin "WSSS20 VHHH 090900" "VHHK SIGMET 3 VALID 090900/091300 VHHH-"
    "VHHK HONG KONG FIR EMBD TS OBS AT 0900Z N OF N2000 AND E OF E11330 TOP FL400 INTSF FCST AT 1300Z N OF N2000 AND E OF E11300="

abbrev pub duststorms : List ℕ
duststorms =
    bulletin "WSAU21 ADRM 240330" "YMMM SIGMET D01 VALID 240330/240430 YPDM-"
    "YMMM MELBOURNE FIR HVY DS OBS WI S2300 E13415 - S2240 E13800 - S2520 E13800 - S2525 E13520 - S2300 E13415 SFC/7000FT MOV N 25KT NC="

abbrev pub sandstorms : List ℕ
sandstorms =
    bulletin "WSCI33 ZBAA 301110" "ZBPE SIGMET 2 VALID 301110/301510 ZBAA-" "ZBPE BEIJING FIR HVY SS OBS AT 1100Z N OF N40 SFC/2000M MOV E 30KMH NC="

abbrev pub turbulence : List ℕ
turbulence =
    bulletin "WSNZ21 NZKL 232134" "NZCC SIGMET 18 VALID 232134/240134 NZKL-"
    "NZCC NEW ZEALAND FIR SEV TURB FCST WI S3929 E17602 - S4305 E17136 - S4522 E17000 - S4538 E17159 - S4112 E17624 - S3929 E17602 FL180/260 MOV E 25KT INTSF="

abbrev pub mountain_waves : List ℕ
mountain_waves =
    bulletin "WSAU21 AMRF 061700" "YMMM SIGMET M07 VALID 061700/062100 YMRF-"
    "YMMM MELBOURNE FIR SEV MTW OBS WI S3704 E14244 - S3611 E14753 - S3736 E14943 - S4006 E14800 - S3952 E14353 - S3704 E14244 FL080/140 STNR NC="

abbrev pub icing : List ℕ
icing = bulletin "WSCI45 ZHHH 021100" "ZHWH SIGMET 3 VALID 021100/021500 ZHHH-" "ZHWH WUHAN FIR SEV ICE FCST N OF N28 SFC/FL200 STNR NC="

abbrev pub radioactive_cloud : List ℕ
radioactive_cloud =
    bulletin "WSSS20 VHHH 180830" "VHHK SIGMET 1 VALID 180830/181230 VHHH-" "VHHK HONG KONG FIR RDOACT CLD FCST E OF E114 SFC/FL100 MOV E 20KT WKN="

abbrev pub cancelled : List ℕ
cancelled = bulletin "WSSS20 VHHH 181100" "VHHK SIGMET 2 VALID 181100/181230 VHHH-" "VHHK HONG KONG FIR CNL SIGMET 1 180830/181230="

abbrev pub ash_cancelled : List ℕ
ash_cancelled = bulletin "WVNG20 AYPY 072250" "AYPY SIGMET A5 VALID 072300/080200 AYPY-" "AYPY PORT MORESBY FIR CNL SIGMET A4 072000/080200="

-- its mountain's name is broken at a line's end, after a hyphen, and goes on in brackets
abbrev pub sakurajima : List ℕ
sakurajima =
    bulletin "WVJP31 RJTD 210320" "RJJJ SIGMET E05 VALID 210320/210920 RJTD-"
    "RJJJ FUKUOKA FIR VA ERUPTION MT SAKURAJIMA- WAKAMIKO(AIRA-CALDERA) PSN N3136 E13039 VA CLD OBS AT 0215Z WI N3020 E13225 - N3051 E13328 - N3056 E13414 - N3042 E13422 - N3009 E13229 - N3020 E13225 SFC/ FL170 NC FCST AT 0815Z WI N2939 E13308 - N2936 E13456 - N3116 E14050 - N2923 E13534 - N2856 E13219 - N2939 E13308 AND WI N3134 E13042 - N3121 E13117 - N3110 E13108 - N3119 E13031 - N3134 E13042 SFC/FL170 NC FCST AT 0815Z WI N3113 E13012 - N3129 E13045 - N3020 E13114 - N3045 E13627 - N2946 E13155 - N3003 E13034 - N3113 E13012="

-- a `-` is missing after point 4
abbrev pub kelut : List ℕ
kelut =
    bulletin "WVID21 WAAA 131805" "WAAZ SIGMET A01 VALID 131745/132345 WAAA-"
    "WAAZ UJUNG PANDANG FIR VA ERUPTION MT KELUT PSN S0756 E11219 VA CLD OBS AT 1745Z WI S0715 E11255 - S0720 E11105 - S0825 E11100 - S0830 E11245 S0715 E11255 SFC/FL450 NC FCST AT 2345Z WI S0720 E11255 - S0715 E11050 - S0830 E11045 - S0835 E11250 - S0720 E11255="

-- the same with that `-`: only a WS has a forecast
abbrev pub kelut_joined : List ℕ
kelut_joined =
    bulletin "WVID21 WAAA 131805" "WAAZ SIGMET A01 VALID 131745/132345 WAAA-"
    "WAAZ UJUNG PANDANG FIR VA ERUPTION MT KELUT PSN S0756 E11219 VA CLD OBS AT 1745Z WI S0715 E11255 - S0720 E11105 - S0825 E11100 - S0830 E11245 - S0715 E11255 SFC/FL450 NC FCST AT 2345Z WI S0720 E11255 - S0715 E11050 - S0830 E11045 - S0835 E11250 - S0720 E11255="
