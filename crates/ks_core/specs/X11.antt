-- The keysyms of X11 and XFree86 by name, beyond the built-in ones: made by names/x11.py from the headers of libxkbcommon 1.5 and of
-- x11proto 2022.1.
use Rattle.std.specs.Prelude.{ℕ, ◌==◌, List, [], ◌∷◌, ◌++◌, codes, drop, map, take, if◌then◌else◌}
use Rattle.std.specs.List.{slice_split, flat_map}
use Rattle.std.specs.Str.{bytes_eq}
use Rattle.ks_core.specs.BuiltIn.{entries_of_run}
use Rattle.ks_core.specs.Entry.{Entry}
use Prim.Native.String.{String}

-- runs: the first keysym, and the first names of it and of those after it, apart by a space
unfoldable pub x11_runs : List (ℕ × String)
x11_runs =
    (0x27, "quoteright") ∷ (0x60, "quoteleft") ∷ (0xd0, "Eth") ∷ (0xd8, "Ooblique") ∷ (0xde, "Thorn") ∷
    (0xf8, "ooblique") ∷ (0x1a2, "breve") ∷ (0x1b2, "ogonek") ∷ (0x1b7, "caron") ∷ (0x1bd, "doubleacute") ∷
    (0x1ff, "abovedot") ∷ (0x2a1, "Hstroke") ∷ (0x2a6, "Hcircumflex") ∷ (0x2a9, "Iabovedot") ∷
    (0x2ab, "Gbreve Jcircumflex") ∷ (0x2b1, "hstroke") ∷ (0x2b6, "hcircumflex") ∷ (0x2b9, "idotless") ∷
    (0x2bb, "gbreve jcircumflex") ∷ (0x2c5, "Cabovedot Ccircumflex") ∷ (0x2d5, "Gabovedot") ∷ (0x2d8, "Gcircumflex") ∷
    (0x2dd, "Ubreve Scircumflex") ∷ (0x2e5, "cabovedot ccircumflex") ∷ (0x2f5, "gabovedot") ∷ (0x2f8, "gcircumflex") ∷
    (0x2fd, "ubreve scircumflex") ∷ (0x3a2, "kra Rcedilla") ∷ (0x3a5, "Itilde Lcedilla") ∷
    (0x3aa, "Emacron Gcedilla Tslash") ∷ (0x3b3, "rcedilla") ∷ (0x3b5, "itilde lcedilla") ∷
    (0x3ba, "emacron gcedilla tslash ENG") ∷ (0x3bf, "eng Amacron") ∷ (0x3c7, "Iogonek") ∷ (0x3cc, "Eabovedot") ∷
    (0x3cf, "Imacron") ∷ (0x3d1, "Ncedilla Omacron Kcedilla") ∷ (0x3d9, "Uogonek") ∷ (0x3dd, "Utilde Umacron") ∷
    (0x3e0, "amacron") ∷ (0x3e7, "iogonek") ∷ (0x3ec, "eabovedot") ∷ (0x3ef, "imacron") ∷
    (0x3f1, "ncedilla omacron kcedilla") ∷ (0x3f9, "uogonek") ∷ (0x3fd, "utilde umacron") ∷ (0x47e, "overline") ∷
    (0x4a1, "kana_fullstop kana_openingbracket kana_closingbracket kana_comma kana_conjunctive kana_WO") ∷
    (0x4a7, "kana_a kana_i kana_u kana_e kana_o kana_ya kana_yu kana_yo kana_tsu prolongedsound kana_A") ∷
    (0x4b2, "kana_I kana_U kana_E kana_O kana_KA kana_KI kana_KU kana_KE kana_KO kana_SA kana_SHI kana_SU") ∷
    (0x4be, "kana_SE kana_SO kana_TA kana_CHI kana_TSU kana_TE kana_TO kana_NA kana_NI kana_NU kana_NE") ∷
    (0x4c9, "kana_NO kana_HA kana_HI kana_FU kana_HE kana_HO kana_MA kana_MI kana_MU kana_ME kana_MO kana_YA") ∷
    (0x4d5, "kana_YU kana_YO kana_RA kana_RI kana_RU kana_RE kana_RO kana_WA kana_N voicedsound") ∷
    (0x4df, "semivoicedsound") ∷ (0x5ac, "Arabic_comma") ∷ (0x5bb, "Arabic_semicolon") ∷
    (0x5bf, "Arabic_question_mark") ∷
    (0x5c1, "Arabic_hamza Arabic_maddaonalef Arabic_hamzaonalef Arabic_hamzaonwaw Arabic_hamzaunderalef") ∷
    (0x5c6, "Arabic_hamzaonyeh Arabic_alef Arabic_beh Arabic_tehmarbuta Arabic_teh Arabic_theh Arabic_jeem") ∷
    (0x5cd, "Arabic_hah Arabic_khah Arabic_dal Arabic_thal Arabic_ra Arabic_zain Arabic_seen Arabic_sheen") ∷
    (0x5d5, "Arabic_sad Arabic_dad Arabic_tah Arabic_zah Arabic_ain Arabic_ghain") ∷
    (0x5e0, "Arabic_tatweel Arabic_feh Arabic_qaf Arabic_kaf Arabic_lam Arabic_meem Arabic_noon Arabic_ha") ∷
    (0x5e8, "Arabic_waw Arabic_alefmaksura Arabic_yeh Arabic_fathatan Arabic_dammatan Arabic_kasratan") ∷
    (0x5ee, "Arabic_fatha Arabic_damma Arabic_kasra Arabic_shadda Arabic_sukun") ∷
    (0x6a1, "Serbian_dje Macedonia_gje Cyrillic_io Ukrainian_ie Macedonia_dse Ukrainian_i Ukrainian_yi") ∷
    (0x6a8, "Cyrillic_je Cyrillic_lje Cyrillic_nje Serbian_tshe Macedonia_kje Ukrainian_ghe_with_upturn") ∷
    (0x6ae, "Byelorussian_shortu Cyrillic_dzhe numerosign Serbian_DJE Macedonia_GJE Cyrillic_IO Ukrainian_IE") ∷
    (0x6b5, "Macedonia_DSE Ukrainian_I Ukrainian_YI Cyrillic_JE Cyrillic_LJE Cyrillic_NJE Serbian_TSHE") ∷
    (0x6bc, "Macedonia_KJE Ukrainian_GHE_WITH_UPTURN Byelorussian_SHORTU Cyrillic_DZHE Cyrillic_yu") ∷
    (0x6c1, "Cyrillic_a Cyrillic_be Cyrillic_tse Cyrillic_de Cyrillic_ie Cyrillic_ef Cyrillic_ghe") ∷
    (0x6c8, "Cyrillic_ha Cyrillic_i Cyrillic_shorti Cyrillic_ka Cyrillic_el Cyrillic_em Cyrillic_en") ∷
    (0x6cf, "Cyrillic_o Cyrillic_pe Cyrillic_ya Cyrillic_er Cyrillic_es Cyrillic_te Cyrillic_u Cyrillic_zhe") ∷
    (0x6d7, "Cyrillic_ve Cyrillic_softsign Cyrillic_yeru Cyrillic_ze Cyrillic_sha Cyrillic_e Cyrillic_shcha") ∷
    (0x6de, "Cyrillic_che Cyrillic_hardsign Cyrillic_YU Cyrillic_A Cyrillic_BE Cyrillic_TSE Cyrillic_DE") ∷
    (0x6e5, "Cyrillic_IE Cyrillic_EF Cyrillic_GHE Cyrillic_HA Cyrillic_I Cyrillic_SHORTI Cyrillic_KA") ∷
    (0x6ec, "Cyrillic_EL Cyrillic_EM Cyrillic_EN Cyrillic_O Cyrillic_PE Cyrillic_YA Cyrillic_ER Cyrillic_ES") ∷
    (0x6f4, "Cyrillic_TE Cyrillic_U Cyrillic_ZHE Cyrillic_VE Cyrillic_SOFTSIGN Cyrillic_YERU Cyrillic_ZE") ∷
    (0x6fb, "Cyrillic_SHA Cyrillic_E Cyrillic_SHCHA Cyrillic_CHE Cyrillic_HARDSIGN") ∷
    (0x7a1, "Greek_ALPHAaccent Greek_EPSILONaccent Greek_ETAaccent Greek_IOTAaccent Greek_IOTAdieresis") ∷
    (0x7a7, "Greek_OMICRONaccent Greek_UPSILONaccent Greek_UPSILONdieresis") ∷ (0x7ab, "Greek_OMEGAaccent") ∷
    (0x7ae, "Greek_accentdieresis Greek_horizbar") ∷
    (0x7b1, "Greek_alphaaccent Greek_epsilonaccent Greek_etaaccent Greek_iotaaccent Greek_iotadieresis") ∷
    (0x7b6, "Greek_iotaaccentdieresis Greek_omicronaccent Greek_upsilonaccent Greek_upsilondieresis") ∷
    (0x7ba, "Greek_upsilonaccentdieresis Greek_omegaaccent") ∷
    (0x7c1, "Greek_ALPHA Greek_BETA Greek_GAMMA Greek_DELTA Greek_EPSILON Greek_ZETA Greek_ETA Greek_THETA") ∷
    (0x7c9, "Greek_IOTA Greek_KAPPA Greek_LAMDA Greek_MU Greek_NU Greek_XI Greek_OMICRON Greek_PI Greek_RHO") ∷
    (0x7d2, "Greek_SIGMA") ∷ (0x7d4, "Greek_TAU Greek_UPSILON Greek_PHI Greek_CHI Greek_PSI Greek_OMEGA") ∷
    (0x7e1, "Greek_alpha Greek_beta Greek_gamma Greek_delta Greek_epsilon Greek_zeta Greek_eta Greek_theta") ∷
    (0x7e9, "Greek_iota Greek_kappa Greek_lamda Greek_mu Greek_nu Greek_xi Greek_omicron Greek_pi Greek_rho") ∷
    (0x7f2, "Greek_sigma Greek_finalsmallsigma Greek_tau Greek_upsilon Greek_phi Greek_chi Greek_psi") ∷
    (0x7f9, "Greek_omega") ∷
    (0x8a1, "leftradical topleftradical horizconnector topintegral botintegral vertconnector") ∷
    (0x8a7, "topleftsqbracket botleftsqbracket toprightsqbracket botrightsqbracket topleftparens") ∷
    (0x8ac, "botleftparens toprightparens botrightparens leftmiddlecurlybrace rightmiddlecurlybrace") ∷
    (0x8b1, "topleftsummation botleftsummation topvertsummationconnector botvertsummationconnector") ∷
    (0x8b5, "toprightsummation botrightsummation rightmiddlesummation") ∷
    (0x8bc, "lessthanequal notequal greaterthanequal integral therefore variation infinity") ∷ (0x8c5, "nabla") ∷
    (0x8c8, "approximate similarequal") ∷ (0x8cd, "ifonlyif implies identical") ∷ (0x8d6, "radical") ∷
    (0x8da, "includedin includes intersection union logicaland logicalor") ∷ (0x8ef, "partialderivative") ∷
    (0x8f6, "function") ∷ (0x8fb, "leftarrow uparrow rightarrow downarrow") ∷
    (0x9df, "blank soliddiamond checkerboard ht ff cr lf") ∷
    (0x9e8, "nl vt lowrightcorner uprightcorner upleftcorner lowleftcorner crossinglines horizlinescan1") ∷
    (0x9f0, "horizlinescan3 horizlinescan5 horizlinescan7 horizlinescan9 leftt rightt bott topt vertbar") ∷
    (0xaa1, "emspace enspace em3space em4space digitspace punctspace thinspace hairspace emdash endash") ∷
    (0xaac, "signifblank") ∷
    (0xaae, "ellipsis doubbaselinedot onethird twothirds onefifth twofifths threefifths fourfifths onesixth") ∷
    (0xab7, "fivesixths careof") ∷ (0xabb, "figdash leftanglebracket decimalpoint rightanglebracket marker") ∷
    (0xac3, "oneeighth threeeighths fiveeighths seveneighths") ∷
    (0xac9, "trademark signaturemark trademarkincircle leftopentriangle rightopentriangle emopencircle") ∷
    (0xacf, "emopenrectangle leftsinglequotemark rightsinglequotemark leftdoublequotemark") ∷
    (0xad3, "rightdoublequotemark prescription permille minutes seconds") ∷
    (0xad9, "latincross hexagram filledrectbullet filledlefttribullet filledrighttribullet emfilledcircle") ∷
    (0xadf, "emfilledrect enopencircbullet enopensquarebullet openrectbullet opentribulletup") ∷
    (0xae4, "opentribulletdown openstar enfilledcircbullet enfilledsqbullet filledtribulletup") ∷
    (0xae9, "filledtribulletdown leftpointer rightpointer club diamond heart") ∷
    (0xaf0, "maltesecross dagger doubledagger checkmark ballotcross musicalsharp musicalflat malesymbol") ∷
    (0xaf8, "femalesymbol telephone telephonerecorder phonographcopyright caret singlelowquotemark") ∷
    (0xafe, "doublelowquotemark cursor") ∷ (0xba3, "leftcaret") ∷ (0xba6, "rightcaret") ∷
    (0xba8, "downcaret upcaret") ∷ (0xbc0, "overbar") ∷ (0xbc2, "downtack upshoe downstile") ∷ (0xbc6, "underbar") ∷
    (0xbca, "jot") ∷ (0xbcc, "quad") ∷ (0xbce, "uptack circle") ∷ (0xbd3, "upstile") ∷ (0xbd6, "downshoe") ∷
    (0xbd8, "rightshoe") ∷ (0xbda, "leftshoe") ∷ (0xbdc, "lefttack") ∷ (0xbfc, "righttack") ∷
    (0xcdf, "hebrew_doublelowline hebrew_aleph hebrew_bet hebrew_gimel hebrew_dalet hebrew_he hebrew_waw") ∷
    (0xce6, "hebrew_zain hebrew_chet hebrew_tet hebrew_yod hebrew_finalkaph hebrew_kaph hebrew_lamed") ∷
    (0xced, "hebrew_finalmem hebrew_mem hebrew_finalnun hebrew_nun hebrew_samech hebrew_ayin hebrew_finalpe") ∷
    (0xcf4, "hebrew_pe hebrew_finalzade hebrew_zade hebrew_qoph hebrew_resh hebrew_shin hebrew_taw") ∷
    (0xda1, "Thai_kokai Thai_khokhai Thai_khokhuat Thai_khokhwai Thai_khokhon Thai_khorakhang Thai_ngongu") ∷
    (0xda8, "Thai_chochan Thai_choching Thai_chochang Thai_soso Thai_chochoe Thai_yoying Thai_dochada") ∷
    (0xdaf, "Thai_topatak Thai_thothan Thai_thonangmontho Thai_thophuthao Thai_nonen Thai_dodek Thai_totao") ∷
    (0xdb6, "Thai_thothung Thai_thothahan Thai_thothong Thai_nonu Thai_bobaimai Thai_popla Thai_phophung") ∷
    (0xdbd, "Thai_fofa Thai_phophan Thai_fofan Thai_phosamphao Thai_moma Thai_yoyak Thai_rorua Thai_ru") ∷
    (0xdc5, "Thai_loling Thai_lu Thai_wowaen Thai_sosala Thai_sorusi Thai_sosua Thai_hohip Thai_lochula") ∷
    (0xdcd, "Thai_oang Thai_honokhuk Thai_paiyannoi Thai_saraa Thai_maihanakat Thai_saraaa Thai_saraam") ∷
    (0xdd4, "Thai_sarai Thai_saraii Thai_saraue Thai_sarauee Thai_sarau Thai_sarauu Thai_phinthu") ∷
    (0xdde, "Thai_maihanakat_maitho Thai_baht Thai_sarae Thai_saraae Thai_sarao Thai_saraaimaimuan") ∷
    (0xde4, "Thai_saraaimaimalai Thai_lakkhangyao Thai_maiyamok Thai_maitaikhu Thai_maiek Thai_maitho") ∷
    (0xdea, "Thai_maitri Thai_maichattawa Thai_thanthakhat Thai_nikhahit") ∷
    (0xdf0, "Thai_leksun Thai_leknung Thai_leksong Thai_leksam Thai_leksi Thai_lekha Thai_lekhok") ∷
    (0xdf7, "Thai_lekchet Thai_lekpaet Thai_lekkao") ∷
    (0xea1, "Hangul_Kiyeog Hangul_SsangKiyeog Hangul_KiyeogSios Hangul_Nieun Hangul_NieunJieuj") ∷
    (0xea6, "Hangul_NieunHieuh Hangul_Dikeud Hangul_SsangDikeud Hangul_Rieul Hangul_RieulKiyeog") ∷
    (0xeab, "Hangul_RieulMieum Hangul_RieulPieub Hangul_RieulSios Hangul_RieulTieut Hangul_RieulPhieuf") ∷
    (0xeb0, "Hangul_RieulHieuh Hangul_Mieum Hangul_Pieub Hangul_SsangPieub Hangul_PieubSios Hangul_Sios") ∷
    (0xeb6, "Hangul_SsangSios Hangul_Ieung Hangul_Jieuj Hangul_SsangJieuj Hangul_Cieuc Hangul_Khieuq") ∷
    (0xebc, "Hangul_Tieut Hangul_Phieuf Hangul_Hieuh Hangul_A Hangul_AE Hangul_YA Hangul_YAE Hangul_EO") ∷
    (0xec4, "Hangul_E Hangul_YEO Hangul_YE Hangul_O Hangul_WA Hangul_WAE Hangul_OE Hangul_YO Hangul_U") ∷
    (0xecd, "Hangul_WEO Hangul_WE Hangul_WI Hangul_YU Hangul_EU Hangul_YI Hangul_I Hangul_J_Kiyeog") ∷
    (0xed5, "Hangul_J_SsangKiyeog Hangul_J_KiyeogSios Hangul_J_Nieun Hangul_J_NieunJieuj Hangul_J_NieunHieuh") ∷
    (0xeda, "Hangul_J_Dikeud Hangul_J_Rieul Hangul_J_RieulKiyeog Hangul_J_RieulMieum Hangul_J_RieulPieub") ∷
    (0xedf, "Hangul_J_RieulSios Hangul_J_RieulTieut Hangul_J_RieulPhieuf Hangul_J_RieulHieuh Hangul_J_Mieum") ∷
    (0xee4, "Hangul_J_Pieub Hangul_J_PieubSios Hangul_J_Sios Hangul_J_SsangSios Hangul_J_Ieung") ∷
    (0xee9, "Hangul_J_Jieuj Hangul_J_Cieuc Hangul_J_Khieuq Hangul_J_Tieut Hangul_J_Phieuf Hangul_J_Hieuh") ∷
    (0xeef, "Hangul_RieulYeorinHieuh Hangul_SunkyeongeumMieum Hangul_SunkyeongeumPieub Hangul_PanSios") ∷
    (0xef3, "Hangul_KkogjiDalrinIeung Hangul_SunkyeongeumPhieuf Hangul_YeorinHieuh Hangul_AraeA") ∷
    (0xef7, "Hangul_AraeAE Hangul_J_PanSios Hangul_J_KkogjiDalrinIeung Hangul_J_YeorinHieuh") ∷
    (0xeff, "Korean_Won") ∷ (0x13bc, "OE oe Ydiaeresis") ∷
    (0xfe21, "ISO_Move_Line_Up ISO_Move_Line_Down ISO_Partial_Line_Up ISO_Partial_Line_Down") ∷
    (0xfe25, "ISO_Partial_Space_Left ISO_Partial_Space_Right ISO_Set_Margin_Left ISO_Set_Margin_Right") ∷
    (0xfe29, "ISO_Release_Margin_Left ISO_Release_Margin_Right ISO_Release_Both_Margins ISO_Fast_Cursor_Left") ∷
    (0xfe2d, "ISO_Fast_Cursor_Right ISO_Fast_Cursor_Up ISO_Fast_Cursor_Down ISO_Continuous_Underline") ∷
    (0xfe31, "ISO_Discontinuous_Underline ISO_Emphasize ISO_Center_Object ISO_Enter") ∷ (0xfe53, "dead_perispomeni") ∷
    (0xfe5e, "dead_voiced_sound dead_semivoiced_sound dead_belowdot dead_hook dead_horn dead_stroke") ∷
    (0xfe64, "dead_abovecomma dead_abovereversedcomma dead_doublegrave dead_belowring dead_belowmacron") ∷
    (0xfe69, "dead_belowcircumflex dead_belowtilde dead_belowbreve dead_belowdiaeresis dead_invertedbreve") ∷
    (0xfe6e, "dead_belowcomma dead_currency AccessX_Enable AccessX_Feedback_Enable RepeatKeys_Enable") ∷
    (0xfe73, "SlowKeys_Enable BounceKeys_Enable StickyKeys_Enable MouseKeys_Enable MouseKeys_Accel_Enable") ∷
    (0xfe78, "Overlay1_Enable Overlay2_Enable AudibleBell_Enable") ∷
    (0xfe80, "dead_a dead_A dead_e dead_E dead_i dead_I dead_o dead_O dead_u dead_U dead_small_schwa") ∷
    (0xfe8b, "dead_capital_schwa dead_greek") ∷
    (0xfe90, "dead_lowline dead_aboveverticalline dead_belowverticalline dead_longsolidusoverlay") ∷
    (0xfea0, "ch Ch CH c_h C_h C_H") ∷ (0xfed0, "First_Virtual_Screen Prev_Virtual_Screen Next_Virtual_Screen") ∷
    (0xfed4, "Last_Virtual_Screen Terminate_Server") ∷
    (0xfee0, "Pointer_Left Pointer_Right Pointer_Up Pointer_Down Pointer_UpLeft Pointer_UpRight") ∷
    (0xfee6, "Pointer_DownLeft Pointer_DownRight Pointer_Button_Dflt Pointer_Button1 Pointer_Button2") ∷
    (0xfeeb, "Pointer_Button3 Pointer_Button4 Pointer_Button5 Pointer_DblClick_Dflt Pointer_DblClick1") ∷
    (0xfef0, "Pointer_DblClick2 Pointer_DblClick3 Pointer_DblClick4 Pointer_DblClick5 Pointer_Drag_Dflt") ∷
    (0xfef5, "Pointer_Drag1 Pointer_Drag2 Pointer_Drag3 Pointer_Drag4 Pointer_EnableKeys Pointer_Accelerate") ∷
    (0xfefb, "Pointer_DfltBtnNext Pointer_DfltBtnPrev Pointer_Drag5") ∷ (0xff0a, "Linefeed Clear") ∷
    (0xff15, "Sys_Req") ∷
    (0xff20, "SunCompose Kanji Muhenkan Henkan_Mode Romaji Hiragana Katakana Hiragana_Katakana Zenkaku") ∷
    (0xff29, "Hankaku Zenkaku_Hankaku Touroku Massyo Kana_Lock Kana_Shift Eisu_Shift Eisu_toggle Hangul") ∷
    (0xff32, "Hangul_Start Hangul_End Hangul_Hanja Hangul_Jamo Hangul_Romaja Codeinput Hangul_Jeonja") ∷
    (0xff39, "Hangul_Banja Hangul_PreHanja Hangul_PostHanja SingleCandidate MultipleCandidate") ∷
    (0xff3e, "PreviousCandidate Hangul_Special") ∷ (0xff55, "Page_Up Page_Down") ∷
    (0xff60, "Select SunPrint_Screen Execute") ∷ (0xff65, "Undo Redo") ∷ (0xff68, "Find Cancel Help Break") ∷
    (0xff7e, "script_switch") ∷ (0xff80, "KP_Space") ∷ (0xff89, "KP_Tab") ∷ (0xff91, "KP_F1 KP_F2 KP_F3 KP_F4") ∷
    (0xff9a, "KP_Page_Up KP_Page_Down") ∷
    (0xffc8, "L1 L2 L3 L4 L5 L6 L7 L8 L9 L10 R1 R2 R3 R4 R5 R6 R7 R8 R9 R10 R11 R12 R13 R14 R15") ∷
    (0xfff1, "braille_dot_1 braille_dot_2 braille_dot_3 braille_dot_4 braille_dot_5 braille_dot_6") ∷
    (0xfff7, "braille_dot_7 braille_dot_8 braille_dot_9 braille_dot_10") ∷ (0x100012c, "Ibreve ibreve") ∷
    (0x1000174, "Wcircumflex wcircumflex Ycircumflex ycircumflex") ∷ (0x100018f, "SCHWA") ∷
    (0x100019f, "Obarred Ohorn ohorn") ∷ (0x10001af, "Uhorn uhorn") ∷ (0x10001b5, "Zstroke zstroke EZH") ∷
    (0x10001d1, "Ocaron ocaron") ∷ (0x10001e6, "Gcaron gcaron") ∷ (0x1000259, "schwa") ∷ (0x1000275, "obarred") ∷
    (0x1000292, "ezh") ∷ (0x1000300, "combining_grave combining_acute") ∷ (0x1000303, "combining_tilde") ∷
    (0x1000309, "combining_hook") ∷ (0x1000323, "combining_belowdot") ∷
    (0x1000492, "Cyrillic_GHE_bar Cyrillic_ghe_bar") ∷ (0x1000496, "Cyrillic_ZHE_descender Cyrillic_zhe_descender") ∷
    (0x100049a, "Cyrillic_KA_descender Cyrillic_ka_descender Cyrillic_KA_vertstroke Cyrillic_ka_vertstroke") ∷
    (0x10004a2, "Cyrillic_EN_descender Cyrillic_en_descender") ∷
    (0x10004ae, "Cyrillic_U_straight Cyrillic_u_straight Cyrillic_U_straight_bar Cyrillic_u_straight_bar") ∷
    (0x10004b2, "Cyrillic_HA_descender Cyrillic_ha_descender") ∷
    (0x10004b6, "Cyrillic_CHE_descender Cyrillic_che_descender Cyrillic_CHE_vertstroke Cyrillic_che_vertstroke") ∷
    (0x10004ba, "Cyrillic_SHHA Cyrillic_shha") ∷ (0x10004d8, "Cyrillic_SCHWA Cyrillic_schwa") ∷
    (0x10004e2, "Cyrillic_I_macron Cyrillic_i_macron") ∷ (0x10004e8, "Cyrillic_O_bar Cyrillic_o_bar") ∷
    (0x10004ee, "Cyrillic_U_macron Cyrillic_u_macron") ∷
    (0x1000531, "Armenian_AYB Armenian_BEN Armenian_GIM Armenian_DA Armenian_YECH Armenian_ZA Armenian_E") ∷
    (0x1000538, "Armenian_AT Armenian_TO Armenian_ZHE Armenian_INI Armenian_LYUN Armenian_KHE Armenian_TSA") ∷
    (0x100053f, "Armenian_KEN Armenian_HO Armenian_DZA Armenian_GHAT Armenian_TCHE Armenian_MEN Armenian_HI") ∷
    (0x1000546, "Armenian_NU Armenian_SHA Armenian_VO Armenian_CHA Armenian_PE Armenian_JE Armenian_RA") ∷
    (0x100054d, "Armenian_SE Armenian_VEV Armenian_TYUN Armenian_RE Armenian_TSO Armenian_VYUN Armenian_PYUR") ∷
    (0x1000554, "Armenian_KE Armenian_O Armenian_FE") ∷
    (0x100055a, "Armenian_apostrophe Armenian_accent Armenian_exclam Armenian_separation_mark Armenian_question") ∷
    (0x1000561, "Armenian_ayb Armenian_ben Armenian_gim Armenian_da Armenian_yech Armenian_za Armenian_e") ∷
    (0x1000568, "Armenian_at Armenian_to Armenian_zhe Armenian_ini Armenian_lyun Armenian_khe Armenian_tsa") ∷
    (0x100056f, "Armenian_ken Armenian_ho Armenian_dza Armenian_ghat Armenian_tche Armenian_men Armenian_hi") ∷
    (0x1000576, "Armenian_nu Armenian_sha Armenian_vo Armenian_cha Armenian_pe Armenian_je Armenian_ra") ∷
    (0x100057d, "Armenian_se Armenian_vev Armenian_tyun Armenian_re Armenian_tso Armenian_vyun Armenian_pyur") ∷
    (0x1000584, "Armenian_ke Armenian_o Armenian_fe Armenian_ligature_ew") ∷
    (0x1000589, "Armenian_full_stop Armenian_hyphen") ∷
    (0x1000653, "Arabic_madda_above Arabic_hamza_above Arabic_hamza_below") ∷
    (0x1000660, "Arabic_0 Arabic_1 Arabic_2 Arabic_3 Arabic_4 Arabic_5 Arabic_6 Arabic_7 Arabic_8 Arabic_9") ∷
    (0x100066a, "Arabic_percent") ∷ (0x1000670, "Arabic_superscript_alef") ∷ (0x1000679, "Arabic_tteh") ∷
    (0x100067e, "Arabic_peh") ∷ (0x1000686, "Arabic_tcheh") ∷ (0x1000688, "Arabic_ddal") ∷
    (0x1000691, "Arabic_rreh") ∷ (0x1000698, "Arabic_jeh") ∷ (0x10006a4, "Arabic_veh") ∷ (0x10006a9, "Arabic_keheh") ∷
    (0x10006af, "Arabic_gaf") ∷ (0x10006ba, "Arabic_noon_ghunna") ∷ (0x10006be, "Arabic_heh_doachashmee") ∷
    (0x10006c1, "Arabic_heh_goal") ∷ (0x10006cc, "Farsi_yeh") ∷ (0x10006d2, "Arabic_yeh_baree") ∷
    (0x10006d4, "Arabic_fullstop") ∷
    (0x10006f0, "Farsi_0 Farsi_1 Farsi_2 Farsi_3 Farsi_4 Farsi_5 Farsi_6 Farsi_7 Farsi_8 Farsi_9") ∷
    (0x1000d82, "Sinh_ng Sinh_h2") ∷
    (0x1000d85, "Sinh_a Sinh_aa Sinh_ae Sinh_aee Sinh_i Sinh_ii Sinh_u Sinh_uu Sinh_ri Sinh_rii Sinh_lu Sinh_luu") ∷
    (0x1000d91, "Sinh_e Sinh_ee Sinh_ai Sinh_o Sinh_oo Sinh_au") ∷
    (0x1000d9a, "Sinh_ka Sinh_kha Sinh_ga Sinh_gha Sinh_ng2 Sinh_nga Sinh_ca Sinh_cha Sinh_ja Sinh_jha Sinh_nya") ∷
    (0x1000da5, "Sinh_jnya Sinh_nja Sinh_tta Sinh_ttha Sinh_dda Sinh_ddha Sinh_nna Sinh_ndda Sinh_tha Sinh_thha") ∷
    (0x1000daf, "Sinh_dha Sinh_dhha Sinh_na") ∷
    (0x1000db3, "Sinh_ndha Sinh_pa Sinh_pha Sinh_ba Sinh_bha Sinh_ma Sinh_mba Sinh_ya Sinh_ra") ∷
    (0x1000dbd, "Sinh_la") ∷ (0x1000dc0, "Sinh_va Sinh_sha Sinh_ssha Sinh_sa Sinh_ha Sinh_lla Sinh_fa") ∷
    (0x1000dca, "Sinh_al") ∷ (0x1000dcf, "Sinh_aa2 Sinh_ae2 Sinh_aee2 Sinh_i2 Sinh_ii2 Sinh_u2") ∷
    (0x1000dd6, "Sinh_uu2") ∷ (0x1000dd8, "Sinh_ru2 Sinh_e2 Sinh_ee2 Sinh_ai2 Sinh_o2 Sinh_oo2 Sinh_au2 Sinh_lu2") ∷
    (0x1000df2, "Sinh_ruu2 Sinh_luu2 Sinh_kunddaliya") ∷
    (0x10010d0, "Georgian_an Georgian_ban Georgian_gan Georgian_don Georgian_en Georgian_vin Georgian_zen") ∷
    (0x10010d7, "Georgian_tan Georgian_in Georgian_kan Georgian_las Georgian_man Georgian_nar Georgian_on") ∷
    (0x10010de, "Georgian_par Georgian_zhar Georgian_rae Georgian_san Georgian_tar Georgian_un Georgian_phar") ∷
    (0x10010e5, "Georgian_khar Georgian_ghan Georgian_qar Georgian_shin Georgian_chin Georgian_can Georgian_jil") ∷
    (0x10010ec, "Georgian_cil Georgian_char Georgian_xan Georgian_jhan Georgian_hae Georgian_he Georgian_hie") ∷
    (0x10010f3, "Georgian_we Georgian_har Georgian_hoe Georgian_fi") ∷ (0x1001e02, "Babovedot babovedot") ∷
    (0x1001e0a, "Dabovedot dabovedot") ∷ (0x1001e1e, "Fabovedot fabovedot") ∷ (0x1001e36, "Lbelowdot lbelowdot") ∷
    (0x1001e40, "Mabovedot mabovedot") ∷ (0x1001e56, "Pabovedot pabovedot") ∷ (0x1001e60, "Sabovedot sabovedot") ∷
    (0x1001e6a, "Tabovedot tabovedot") ∷ (0x1001e80, "Wgrave wgrave Wacute wacute Wdiaeresis wdiaeresis") ∷
    (0x1001e8a, "Xabovedot xabovedot") ∷
    (0x1001ea0, "Abelowdot abelowdot Ahook ahook Acircumflexacute acircumflexacute Acircumflexgrave") ∷
    (0x1001ea7, "acircumflexgrave Acircumflexhook acircumflexhook Acircumflextilde acircumflextilde") ∷
    (0x1001eac, "Acircumflexbelowdot acircumflexbelowdot Abreveacute abreveacute Abrevegrave abrevegrave") ∷
    (0x1001eb2, "Abrevehook abrevehook Abrevetilde abrevetilde Abrevebelowdot abrevebelowdot Ebelowdot ebelowdot") ∷
    (0x1001eba, "Ehook ehook Etilde etilde Ecircumflexacute ecircumflexacute Ecircumflexgrave ecircumflexgrave") ∷
    (0x1001ec2, "Ecircumflexhook ecircumflexhook Ecircumflextilde ecircumflextilde Ecircumflexbelowdot") ∷
    (0x1001ec7, "ecircumflexbelowdot Ihook ihook Ibelowdot ibelowdot Obelowdot obelowdot Ohook ohook") ∷
    (0x1001ed0, "Ocircumflexacute ocircumflexacute Ocircumflexgrave ocircumflexgrave Ocircumflexhook") ∷
    (0x1001ed5, "ocircumflexhook Ocircumflextilde ocircumflextilde Ocircumflexbelowdot ocircumflexbelowdot") ∷
    (0x1001eda, "Ohornacute ohornacute Ohorngrave ohorngrave Ohornhook ohornhook Ohorntilde ohorntilde") ∷
    (0x1001ee2, "Ohornbelowdot ohornbelowdot Ubelowdot ubelowdot Uhook uhook Uhornacute uhornacute Uhorngrave") ∷
    (0x1001eeb, "uhorngrave Uhornhook uhornhook Uhorntilde uhorntilde Uhornbelowdot uhornbelowdot Ygrave ygrave") ∷
    (0x1001ef4, "Ybelowdot ybelowdot Yhook yhook Ytilde ytilde") ∷ (0x1002070, "zerosuperior") ∷
    (0x1002074, "foursuperior fivesuperior sixsuperior sevensuperior eightsuperior ninesuperior") ∷
    (0x1002080, "zerosubscript onesubscript twosubscript threesubscript foursubscript fivesubscript sixsubscript") ∷
    (0x1002087, "sevensubscript eightsubscript ninesubscript") ∷
    (0x10020a0, "EcuSign ColonSign CruzeiroSign FFrancSign LiraSign MillSign NairaSign PesetaSign RupeeSign") ∷
    (0x10020a9, "WonSign NewSheqelSign DongSign") ∷ (0x1002202, "partdifferential") ∷ (0x1002205, "emptyset") ∷
    (0x1002208, "elementof notelementof") ∷ (0x100220b, "containsas") ∷
    (0x100221a, "squareroot cuberoot fourthroot") ∷ (0x100222c, "dintegral tintegral") ∷ (0x1002235, "because") ∷
    (0x1002247, "notapproxeq approxeq") ∷ (0x1002262, "notidentical stricteq") ∷
    (0x1002800, "braille_blank braille_dots_1 braille_dots_2 braille_dots_12 braille_dots_3 braille_dots_13") ∷
    (0x1002806, "braille_dots_23 braille_dots_123 braille_dots_4 braille_dots_14 braille_dots_24") ∷
    (0x100280b, "braille_dots_124 braille_dots_34 braille_dots_134 braille_dots_234 braille_dots_1234") ∷
    (0x1002810, "braille_dots_5 braille_dots_15 braille_dots_25 braille_dots_125 braille_dots_35") ∷
    (0x1002815, "braille_dots_135 braille_dots_235 braille_dots_1235 braille_dots_45 braille_dots_145") ∷
    (0x100281a, "braille_dots_245 braille_dots_1245 braille_dots_345 braille_dots_1345 braille_dots_2345") ∷
    (0x100281f, "braille_dots_12345 braille_dots_6 braille_dots_16 braille_dots_26 braille_dots_126") ∷
    (0x1002824, "braille_dots_36 braille_dots_136 braille_dots_236 braille_dots_1236 braille_dots_46") ∷
    (0x1002829, "braille_dots_146 braille_dots_246 braille_dots_1246 braille_dots_346 braille_dots_1346") ∷
    (0x100282e, "braille_dots_2346 braille_dots_12346 braille_dots_56 braille_dots_156 braille_dots_256") ∷
    (0x1002833, "braille_dots_1256 braille_dots_356 braille_dots_1356 braille_dots_2356 braille_dots_12356") ∷
    (0x1002838, "braille_dots_456 braille_dots_1456 braille_dots_2456 braille_dots_12456 braille_dots_3456") ∷
    (0x100283d, "braille_dots_13456 braille_dots_23456 braille_dots_123456 braille_dots_7 braille_dots_17") ∷
    (0x1002842, "braille_dots_27 braille_dots_127 braille_dots_37 braille_dots_137 braille_dots_237") ∷
    (0x1002847, "braille_dots_1237 braille_dots_47 braille_dots_147 braille_dots_247 braille_dots_1247") ∷
    (0x100284c, "braille_dots_347 braille_dots_1347 braille_dots_2347 braille_dots_12347 braille_dots_57") ∷
    (0x1002851, "braille_dots_157 braille_dots_257 braille_dots_1257 braille_dots_357 braille_dots_1357") ∷
    (0x1002856, "braille_dots_2357 braille_dots_12357 braille_dots_457 braille_dots_1457 braille_dots_2457") ∷
    (0x100285b, "braille_dots_12457 braille_dots_3457 braille_dots_13457 braille_dots_23457 braille_dots_123457") ∷
    (0x1002860, "braille_dots_67 braille_dots_167 braille_dots_267 braille_dots_1267 braille_dots_367") ∷
    (0x1002865, "braille_dots_1367 braille_dots_2367 braille_dots_12367 braille_dots_467 braille_dots_1467") ∷
    (0x100286a, "braille_dots_2467 braille_dots_12467 braille_dots_3467 braille_dots_13467 braille_dots_23467") ∷
    (0x100286f, "braille_dots_123467 braille_dots_567 braille_dots_1567 braille_dots_2567 braille_dots_12567") ∷
    (0x1002874, "braille_dots_3567 braille_dots_13567 braille_dots_23567 braille_dots_123567 braille_dots_4567") ∷
    (0x1002879, "braille_dots_14567 braille_dots_24567 braille_dots_124567 braille_dots_34567") ∷
    (0x100287d, "braille_dots_134567 braille_dots_234567 braille_dots_1234567 braille_dots_8 braille_dots_18") ∷
    (0x1002882, "braille_dots_28 braille_dots_128 braille_dots_38 braille_dots_138 braille_dots_238") ∷
    (0x1002887, "braille_dots_1238 braille_dots_48 braille_dots_148 braille_dots_248 braille_dots_1248") ∷
    (0x100288c, "braille_dots_348 braille_dots_1348 braille_dots_2348 braille_dots_12348 braille_dots_58") ∷
    (0x1002891, "braille_dots_158 braille_dots_258 braille_dots_1258 braille_dots_358 braille_dots_1358") ∷
    (0x1002896, "braille_dots_2358 braille_dots_12358 braille_dots_458 braille_dots_1458 braille_dots_2458") ∷
    (0x100289b, "braille_dots_12458 braille_dots_3458 braille_dots_13458 braille_dots_23458 braille_dots_123458") ∷
    (0x10028a0, "braille_dots_68 braille_dots_168 braille_dots_268 braille_dots_1268 braille_dots_368") ∷
    (0x10028a5, "braille_dots_1368 braille_dots_2368 braille_dots_12368 braille_dots_468 braille_dots_1468") ∷
    (0x10028aa, "braille_dots_2468 braille_dots_12468 braille_dots_3468 braille_dots_13468 braille_dots_23468") ∷
    (0x10028af, "braille_dots_123468 braille_dots_568 braille_dots_1568 braille_dots_2568 braille_dots_12568") ∷
    (0x10028b4, "braille_dots_3568 braille_dots_13568 braille_dots_23568 braille_dots_123568 braille_dots_4568") ∷
    (0x10028b9, "braille_dots_14568 braille_dots_24568 braille_dots_124568 braille_dots_34568") ∷
    (0x10028bd, "braille_dots_134568 braille_dots_234568 braille_dots_1234568 braille_dots_78 braille_dots_178") ∷
    (0x10028c2, "braille_dots_278 braille_dots_1278 braille_dots_378 braille_dots_1378 braille_dots_2378") ∷
    (0x10028c7, "braille_dots_12378 braille_dots_478 braille_dots_1478 braille_dots_2478 braille_dots_12478") ∷
    (0x10028cc, "braille_dots_3478 braille_dots_13478 braille_dots_23478 braille_dots_123478 braille_dots_578") ∷
    (0x10028d1, "braille_dots_1578 braille_dots_2578 braille_dots_12578 braille_dots_3578 braille_dots_13578") ∷
    (0x10028d6, "braille_dots_23578 braille_dots_123578 braille_dots_4578 braille_dots_14578 braille_dots_24578") ∷
    (0x10028db, "braille_dots_124578 braille_dots_34578 braille_dots_134578 braille_dots_234578") ∷
    (0x10028df, "braille_dots_1234578 braille_dots_678 braille_dots_1678 braille_dots_2678 braille_dots_12678") ∷
    (0x10028e4, "braille_dots_3678 braille_dots_13678 braille_dots_23678 braille_dots_123678 braille_dots_4678") ∷
    (0x10028e9, "braille_dots_14678 braille_dots_24678 braille_dots_124678 braille_dots_34678") ∷
    (0x10028ed, "braille_dots_134678 braille_dots_234678 braille_dots_1234678 braille_dots_5678") ∷
    (0x10028f1, "braille_dots_15678 braille_dots_25678 braille_dots_125678 braille_dots_35678") ∷
    (0x10028f5, "braille_dots_135678 braille_dots_235678 braille_dots_1235678 braille_dots_45678") ∷
    (0x10028f9, "braille_dots_145678 braille_dots_245678 braille_dots_1245678 braille_dots_345678") ∷
    (0x10028fd, "braille_dots_1345678 braille_dots_2345678 braille_dots_12345678") ∷
    (0x100000a8, "hpmute_acute hpmute_grave hpmute_asciicircum hpmute_diaeresis hpmute_asciitilde") ∷
    (0x100000af, "hplira") ∷ (0x100000be, "hpguilder") ∷ (0x100000ee, "hpYdiaeresis") ∷ (0x100000f6, "hplongminus") ∷
    (0x100000fc, "hpblock") ∷ (0x1000fe22, "Ddiaeresis") ∷ (0x1000fe27, "Dacute_accent") ∷
    (0x1000fe2c, "Dcedilla_accent") ∷ (0x1000fe5e, "Dcircumflex_accent") ∷ (0x1000fe60, "Dgrave_accent") ∷
    (0x1000fe7e, "Dtilde") ∷ (0x1000feb0, "Dring_accent") ∷ (0x1000ff00, "DRemove") ∷
    (0x1000ff48, "hpModelock1 hpModelock2") ∷
    (0x1000ff6c, "hpReset hpSystem hpUser hpClearLine hpInsertLine hpDeleteLine hpInsertChar hpDeleteChar") ∷
    (0x1000ff74, "hpBackTab hpKP_BackTab Ext16bit_L Ext16bit_R") ∷ (0x1004ff02, "osfCopy osfCut osfPaste") ∷
    (0x1004ff07, "osfBackTab osfBackSpace") ∷ (0x1004ff0b, "osfClear") ∷ (0x1004ff1b, "osfEscape") ∷
    (0x1004ff31, "osfAddMode osfPrimaryPaste osfQuickPaste") ∷
    (0x1004ff40, "osfPageLeft osfPageUp osfPageDown osfPageRight osfActivate osfMenuBar") ∷
    (0x1004ff51, "osfLeft osfUp osfRight osfDown") ∷
    (0x1004ff57, "osfEndLine osfBeginLine osfEndData osfBeginData osfPrevMenu osfNextMenu osfPrevField") ∷
    (0x1004ff5e, "osfNextField") ∷ (0x1004ff60, "osfSelect") ∷ (0x1004ff63, "osfInsert") ∷ (0x1004ff65, "osfUndo") ∷
    (0x1004ff67, "osfMenu") ∷ (0x1004ff69, "osfCancel osfHelp") ∷
    (0x1004ff71, "osfSelectAll osfDeselectAll osfReselect osfExtend") ∷ (0x1004ff78, "osfRestore") ∷
    (0x1004ffff, "osfDelete") ∷
    (0x1005ff00, "SunFA_Grave SunFA_Circum SunFA_Tilde SunFA_Acute SunFA_Diaeresis SunFA_Cedilla") ∷
    (0x1005ff10, "SunF36 SunF37") ∷ (0x1005ff60, "SunSys_Req") ∷
    (0x1005ff70, "SunProps SunFront SunCopy SunOpen SunPaste SunCut SunPowerSwitch SunAudioLowerVolume") ∷
    (0x1005ff78, "SunAudioMute SunAudioRaiseVolume SunVideoDegauss SunVideoLowerBrightness") ∷
    (0x1005ff7c, "SunVideoRaiseBrightness SunPowerSwitchShift") ∷ (0x100810f4, "XF86BrightnessAuto XF86DisplayOff") ∷
    (0x10081166, "XF86Info") ∷ (0x10081177, "XF86AspectRatio") ∷ (0x10081185, "XF86DVD") ∷ (0x10081188, "XF86Audio") ∷
    (0x10081192, "XF86ChannelUp XF86ChannelDown") ∷ (0x1008119b, "XF86Break") ∷ (0x100811a0, "XF86VideoPhone") ∷
    (0x100811a4, "XF86ZoomReset") ∷ (0x100811a6, "XF86Editor") ∷
    (0x100811a8, "XF86GraphicsEditor XF86Presentation XF86Database") ∷ (0x100811ac, "XF86Voicemail XF86Addressbook") ∷
    (0x100811af, "XF86DisplayToggle XF86SpellCheck") ∷
    (0x100811b6, "XF86ContextMenu XF86MediaRepeat XF8610ChannelsUp XF8610ChannelsDown XF86Images") ∷
    (0x100811bc, "XF86NotificationCenter XF86PickupPhone XF86HangupPhone") ∷ (0x100811d0, "XF86Fn XF86Fn_Esc") ∷
    (0x100811e5, "XF86FnRightShift") ∷
    (0x10081200, "XF86Numeric0 XF86Numeric1 XF86Numeric2 XF86Numeric3 XF86Numeric4 XF86Numeric5 XF86Numeric6") ∷
    (0x10081207, "XF86Numeric7 XF86Numeric8 XF86Numeric9 XF86NumericStar XF86NumericPound XF86NumericA") ∷
    (0x1008120d, "XF86NumericB XF86NumericC XF86NumericD XF86CameraFocus XF86WPSButton") ∷
    (0x10081215, "XF86CameraZoomIn XF86CameraZoomOut XF86CameraUp XF86CameraDown XF86CameraLeft XF86CameraRight") ∷
    (0x1008121b, "XF86AttendantOn XF86AttendantOff XF86AttendantToggle XF86LightsToggle") ∷
    (0x10081230, "XF86ALSToggle") ∷
    (0x10081240, "XF86Buttonconfig XF86Taskmanager XF86Journal XF86ControlPanel XF86AppSelect XF86Screensaver") ∷
    (0x10081246, "XF86VoiceCommand XF86Assistant") ∷ (0x10081249, "XF86EmojiPicker XF86Dictate") ∷
    (0x10081250, "XF86BrightnessMin XF86BrightnessMax") ∷
    (0x10081260, "XF86KbdInputAssistPrev XF86KbdInputAssistNext XF86KbdInputAssistPrevgroup") ∷
    (0x10081263, "XF86KbdInputAssistNextgroup XF86KbdInputAssistAccept XF86KbdInputAssistCancel XF86RightUp") ∷
    (0x10081267, "XF86RightDown XF86LeftUp XF86LeftDown XF86RootMenu XF86MediaTopMenu XF86Numeric11 XF86Numeric12") ∷
    (0x1008126e, "XF86AudioDesc XF863DMode XF86NextFavorite XF86StopRecord XF86PauseRecord XF86VOD XF86Unmute") ∷
    (0x10081275, "XF86FastReverse XF86SlowReverse XF86Data XF86OnScreenKeyboard XF86PrivacyScreenToggle") ∷
    (0x1008127a, "XF86SelectiveScreenshot") ∷
    (0x10081290, "XF86Macro1 XF86Macro2 XF86Macro3 XF86Macro4 XF86Macro5 XF86Macro6 XF86Macro7 XF86Macro8") ∷
    (0x10081298, "XF86Macro9 XF86Macro10 XF86Macro11 XF86Macro12 XF86Macro13 XF86Macro14 XF86Macro15 XF86Macro16") ∷
    (0x100812a0, "XF86Macro17 XF86Macro18 XF86Macro19 XF86Macro20 XF86Macro21 XF86Macro22 XF86Macro23 XF86Macro24") ∷
    (0x100812a8, "XF86Macro25 XF86Macro26 XF86Macro27 XF86Macro28 XF86Macro29 XF86Macro30") ∷
    (0x100812b0, "XF86MacroRecordStart XF86MacroRecordStop XF86MacroPresetCycle XF86MacroPreset1 XF86MacroPreset2") ∷
    (0x100812b5, "XF86MacroPreset3") ∷
    (0x100812b8, "XF86KbdLcdMenu1 XF86KbdLcdMenu2 XF86KbdLcdMenu3 XF86KbdLcdMenu4 XF86KbdLcdMenu5") ∷
    (0x1008fe01, "XF86Switch_VT_1 XF86Switch_VT_2 XF86Switch_VT_3 XF86Switch_VT_4 XF86Switch_VT_5 XF86Switch_VT_6") ∷
    (0x1008fe07, "XF86Switch_VT_7 XF86Switch_VT_8 XF86Switch_VT_9 XF86Switch_VT_10 XF86Switch_VT_11") ∷
    (0x1008fe0c, "XF86Switch_VT_12") ∷
    (0x1008fe20, "XF86Ungrab XF86ClearGrab XF86Next_VMode XF86Prev_VMode XF86LogWindowTree XF86LogGrabInfo") ∷
    (0x1008ff01, "XF86ModeLock XF86MonBrightnessUp XF86MonBrightnessDown XF86KbdLightOnOff XF86KbdBrightnessUp") ∷
    (0x1008ff06, "XF86KbdBrightnessDown XF86MonBrightnessCycle") ∷
    (0x1008ff10, "XF86Standby XF86AudioLowerVolume XF86AudioMute XF86AudioRaiseVolume XF86AudioPlay XF86AudioStop") ∷
    (0x1008ff16, "XF86AudioPrev XF86AudioNext XF86HomePage XF86Mail XF86Start XF86Search XF86AudioRecord") ∷
    (0x1008ff1d, "XF86Calculator XF86Memo XF86ToDoList XF86Calendar XF86PowerDown XF86ContrastAdjust XF86RockerUp") ∷
    (0x1008ff24, "XF86RockerDown XF86RockerEnter XF86Back XF86Forward XF86Stop XF86Refresh XF86PowerOff") ∷
    (0x1008ff2b, "XF86WakeUp XF86Eject XF86ScreenSaver XF86WWW XF86Sleep XF86Favorites XF86AudioPause") ∷
    (0x1008ff32, "XF86AudioMedia XF86MyComputer XF86VendorHome XF86LightBulb XF86Shop XF86History XF86OpenURL") ∷
    (0x1008ff39, "XF86AddFavorite XF86HotLinks XF86BrightnessAdjust XF86Finance XF86Community XF86AudioRewind") ∷
    (0x1008ff3f, "XF86BackForward XF86Launch0 XF86Launch1 XF86Launch2 XF86Launch3 XF86Launch4 XF86Launch5") ∷
    (0x1008ff46, "XF86Launch6 XF86Launch7 XF86Launch8 XF86Launch9 XF86LaunchA XF86LaunchB XF86LaunchC XF86LaunchD") ∷
    (0x1008ff4e, "XF86LaunchE XF86LaunchF XF86ApplicationLeft XF86ApplicationRight XF86Book XF86CD XF86Calculater") ∷
    (0x1008ff55, "XF86Clear XF86Close XF86Copy XF86Cut XF86Display XF86DOS XF86Documents XF86Excel XF86Explorer") ∷
    (0x1008ff5e, "XF86Game XF86Go XF86iTouch XF86LogOff XF86Market XF86Meeting") ∷
    (0x1008ff65, "XF86MenuKB XF86MenuPB XF86MySites XF86New XF86News XF86OfficeHome XF86Open XF86Option XF86Paste") ∷
    (0x1008ff6e, "XF86Phone") ∷ (0x1008ff70, "XF86Q") ∷
    (0x1008ff72, "XF86Reply XF86Reload XF86RotateWindows XF86RotationPB XF86RotationKB XF86Save XF86ScrollUp") ∷
    (0x1008ff79, "XF86ScrollDown XF86ScrollClick XF86Send XF86Spell XF86SplitScreen XF86Support XF86TaskPane") ∷
    (0x1008ff80, "XF86Terminal XF86Tools XF86Travel") ∷
    (0x1008ff84, "XF86UserPB XF86User1KB XF86User2KB XF86Video XF86WheelButton XF86Word XF86Xfer XF86ZoomIn") ∷
    (0x1008ff8c, "XF86ZoomOut XF86Away XF86Messenger XF86WebCam XF86MailForward XF86Pictures XF86Music") ∷
    (0x1008ff93, "XF86Battery XF86Bluetooth XF86WLAN XF86UWB XF86AudioForward XF86AudioRepeat XF86AudioRandomPlay") ∷
    (0x1008ff9a, "XF86Subtitle XF86AudioCycleTrack XF86CycleAngle XF86FrameBack XF86FrameForward XF86Time") ∷
    (0x1008ffa0, "XF86Select XF86View XF86TopMenu XF86Red XF86Green XF86Yellow XF86Blue XF86Suspend XF86Hibernate") ∷
    (0x1008ffa9, "XF86TouchpadToggle") ∷
    (0x1008ffb0, "XF86TouchpadOn XF86TouchpadOff XF86AudioMicMute XF86Keyboard XF86WWAN XF86RFKill") ∷
    (0x1008ffb6, "XF86AudioPreset XF86RotationLockToggle XF86FullScreen") ∷ []

-- keysyms, and the further names of each, apart by a space
unfoldable pub x11_others : List (ℕ × String)
x11_others =
    (0x3a2, "kappa") ∷ (0x4a5, "kana_middledot") ∷ (0x4af, "kana_tu") ∷ (0x4c1, "kana_TI") ∷ (0x4c2, "kana_TU") ∷
    (0x4cc, "kana_HU") ∷ (0x5e7, "Arabic_heh") ∷ (0x6a4, "Ukranian_je") ∷ (0x6a6, "Ukranian_i") ∷
    (0x6a7, "Ukranian_yi") ∷ (0x6a8, "Serbian_je") ∷ (0x6a9, "Serbian_lje") ∷ (0x6aa, "Serbian_nje") ∷
    (0x6af, "Serbian_dze") ∷ (0x6b4, "Ukranian_JE") ∷ (0x6b6, "Ukranian_I") ∷ (0x6b7, "Ukranian_YI") ∷
    (0x6b8, "Serbian_JE") ∷ (0x6b9, "Serbian_LJE") ∷ (0x6ba, "Serbian_NJE") ∷ (0x6bf, "Serbian_DZE") ∷
    (0x7a5, "Greek_IOTAdiaeresis") ∷ (0x7cb, "Greek_LAMBDA") ∷ (0x7eb, "Greek_lambda") ∷ (0xce1, "hebrew_beth") ∷
    (0xce2, "hebrew_gimmel") ∷ (0xce3, "hebrew_daleth") ∷ (0xce6, "hebrew_zayin") ∷ (0xce7, "hebrew_het") ∷
    (0xce8, "hebrew_teth") ∷ (0xcf1, "hebrew_samekh") ∷ (0xcf5, "hebrew_finalzadi") ∷ (0xcf6, "hebrew_zadi") ∷
    (0xcf7, "hebrew_kuf") ∷ (0xcfa, "hebrew_taf") ∷ (0xfe64, "dead_psili") ∷ (0xfe65, "dead_dasia") ∷
    (0xff23, "Henkan") ∷ (0xff37, "Kanji_Bangou Hangul_Codeinput") ∷ (0xff3c, "Hangul_SingleCandidate") ∷
    (0xff3d, "Zen_Koho Hangul_MultipleCandidate") ∷ (0xff3e, "Mae_Koho Hangul_PreviousCandidate") ∷
    (0xff55, "SunPageUp") ∷ (0xff56, "SunPageDown") ∷ (0xff65, "SunUndo") ∷ (0xff66, "SunAgain") ∷
    (0xff68, "SunFind") ∷ (0xff69, "SunStop") ∷
    (0xff7e, "ISO_Group_Shift kana_switch Arabic_switch Greek_switch Hebrew_switch Hangul_switch SunAltGraph") ∷
    (0x100055b, "Armenian_shesht") ∷ (0x100055c, "Armenian_amanak") ∷ (0x100055d, "Armenian_but") ∷
    (0x100055e, "Armenian_paruyk") ∷ (0x1000589, "Armenian_verjaket") ∷ (0x100058a, "Armenian_yentamna") ∷
    (0x10006cc, "Arabic_farsi_yeh") ∷ (0x100000a8, "mute_acute") ∷ (0x100000a9, "mute_grave") ∷
    (0x100000aa, "mute_asciicircum") ∷ (0x100000ab, "mute_diaeresis") ∷ (0x100000ac, "mute_asciitilde") ∷
    (0x100000af, "lira") ∷ (0x100000be, "guilder") ∷ (0x100000ee, "hpIO IO") ∷ (0x100000f6, "longminus") ∷
    (0x100000fc, "block") ∷ (0x1000ff6c, "Reset") ∷ (0x1000ff6d, "System") ∷ (0x1000ff6e, "User") ∷
    (0x1000ff6f, "ClearLine") ∷ (0x1000ff70, "InsertLine") ∷ (0x1000ff71, "DeleteLine") ∷ (0x1000ff72, "InsertChar") ∷
    (0x1000ff73, "DeleteChar") ∷ (0x1000ff74, "BackTab") ∷ (0x1000ff75, "KP_BackTab") ∷ []

-- the first names of the keysyms
unfoldable pub x11_firsts : List Entry
unfolding x11_runs entries_of_run
x11_firsts = flat_map entries_of_run x11_runs

abbrev pub named_alike : ℕ × String → List Entry
named_alike names = map (λ name. (name, names.0)) (slice_split (λ c. c == 32) (codes names.1))

unfoldable pub x11_seconds : List Entry
unfolding x11_others
x11_seconds = flat_map named_alike x11_others

-- `XF86_` and the rest for each name of `XF86` and a rest
unfoldable pub underscored : List Entry → List Entry
underscored [] = []
underscored (e ∷ es) = if bytes_eq (take 4 e.0) (codes "XF86") then (codes "XF86_" ++ drop 4 e.0, e.1) ∷ underscored es else underscored es

-- the names with their keysyms
unfoldable pub x11_names : List Entry
unfolding x11_firsts x11_seconds
x11_names = x11_firsts ++ (x11_seconds ++ underscored (x11_firsts ++ x11_seconds))
