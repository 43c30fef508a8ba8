-- The built-in names: runs of names whose keysyms follow one another, in the order of the keysyms.
use Rattle.std.specs.Prelude.{ℕ, ◌+◌, ◌==◌, List, [], ◌∷◌, codes}
use Rattle.std.specs.List.{slice_split, flat_map}
use Rattle.ks_core.specs.Entry.{Entry}
use Prim.Native.String.{String}

-- runs: the first keysym, and the names apart by a space
unfoldable pub built_in_runs : List (ℕ × String)
built_in_runs = (0x0, "NoSymbol") ∷ (0x20, "space exclam quotedbl numbersign dollar percent ampersand apostrophe")
    ∷ (0x28, "parenleft parenright asterisk plus comma minus period slash") ∷ (0x30, "0 1 2 3 4 5 6 7 8 9")
    ∷ (0x3a, "colon semicolon less equal greater question at") ∷ (0x41, "A B C D E F G H I J K L M N O P Q R S T U V W X Y Z")
    ∷ (0x5b, "bracketleft backslash bracketright asciicircum underscore grave") ∷ (0x61, "a b c d e f g h i j k l m n o p q r s t u v w x y z")
    ∷ (0x7b, "braceleft bar braceright asciitilde") ∷ (0xa0, "nobreakspace exclamdown cent sterling currency yen brokenbar section diaeresis")
    ∷ (0xa9, "copyright ordfeminine guillemotleft notsign hyphen registered macron")
    ∷ (0xb0, "degree plusminus twosuperior threesuperior acute mu paragraph periodcentered cedilla")
    ∷ (0xb9, "onesuperior masculine guillemotright onequarter onehalf threequarters questiondown")
    ∷ (0xc0, "Agrave Aacute Acircumflex Atilde Adiaeresis Aring AE Ccedilla Egrave Eacute")
    ∷ (0xca, "Ecircumflex Ediaeresis Igrave Iacute Icircumflex Idiaeresis")
    ∷ (0xd0, "ETH Ntilde Ograve Oacute Ocircumflex Otilde Odiaeresis multiply Oslash Ugrave Uacute")
    ∷ (0xdb, "Ucircumflex Udiaeresis Yacute THORN ssharp") ∷ (0xe0, "agrave aacute acircumflex atilde adiaeresis aring ae ccedilla egrave eacute")
    ∷ (0xea, "ecircumflex ediaeresis igrave iacute icircumflex idiaeresis")
    ∷ (0xf0, "eth ntilde ograve oacute ocircumflex otilde odiaeresis division oslash ugrave uacute")
    ∷ (0xfb, "ucircumflex udiaeresis yacute thorn ydiaeresis")
    ∷ (0x1a1, "Aogonek") ∷ (0x1a3, "Lstroke") ∷ (0x1a5, "Lcaron") ∷ (0x1a6, "Sacute") ∷ (0x1a9, "Scaron")
    ∷ (0x1aa, "Scedilla") ∷ (0x1ab, "Tcaron") ∷ (0x1ac, "Zacute") ∷ (0x1ae, "Zcaron") ∷ (0x1af, "Zabovedot")
    ∷ (0x1b1, "aogonek") ∷ (0x1b3, "lstroke") ∷ (0x1b5, "lcaron") ∷ (0x1b6, "sacute") ∷ (0x1b9, "scaron")
    ∷ (0x1ba, "scedilla") ∷ (0x1bb, "tcaron") ∷ (0x1bc, "zacute") ∷ (0x1be, "zcaron") ∷ (0x1bf, "zabovedot")
    ∷ (0x1c0, "Racute") ∷ (0x1c3, "Abreve") ∷ (0x1c5, "Lacute") ∷ (0x1c6, "Cacute") ∷ (0x1c8, "Ccaron")
    ∷ (0x1ca, "Eogonek") ∷ (0x1cc, "Ecaron") ∷ (0x1cf, "Dcaron") ∷ (0x1d0, "Dstroke") ∷ (0x1d1, "Nacute")
    ∷ (0x1d2, "Ncaron") ∷ (0x1d5, "Odoubleacute") ∷ (0x1d8, "Rcaron") ∷ (0x1d9, "Uring") ∷ (0x1db, "Udoubleacute")
    ∷ (0x1de, "Tcedilla") ∷ (0x1e0, "racute") ∷ (0x1e3, "abreve") ∷ (0x1e5, "lacute") ∷ (0x1e6, "cacute")
    ∷ (0x1e8, "ccaron") ∷ (0x1ea, "eogonek") ∷ (0x1ec, "ecaron") ∷ (0x1ef, "dcaron") ∷ (0x1f0, "dstroke")
    ∷ (0x1f1, "nacute") ∷ (0x1f2, "ncaron") ∷ (0x1f5, "odoubleacute") ∷ (0x1f8, "rcaron") ∷ (0x1f9, "uring")
    ∷ (0x1fb, "udoubleacute") ∷ (0x1fe, "tcedilla") ∷ (0x20ac, "EuroSign")
    ∷ (0xfe01, "ISO_Lock ISO_Level2_Latch ISO_Level3_Shift ISO_Level3_Latch ISO_Level3_Lock")
    ∷ (0xfe06, "ISO_Group_Latch ISO_Group_Lock ISO_Next_Group ISO_Next_Group_Lock ISO_Prev_Group")
    ∷ (0xfe0b, "ISO_Prev_Group_Lock ISO_First_Group ISO_First_Group_Lock ISO_Last_Group") ∷ (0xfe0f, "ISO_Last_Group_Lock")
    ∷ (0xfe11, "ISO_Level5_Shift ISO_Level5_Latch ISO_Level5_Lock") ∷ (0xfe20, "ISO_Left_Tab")
    ∷ (0xfe50, "dead_grave dead_acute dead_circumflex dead_tilde dead_macron dead_breve")
    ∷ (0xfe56, "dead_abovedot dead_diaeresis dead_abovering dead_doubleacute dead_caron") ∷ (0xfe5b, "dead_cedilla dead_ogonek dead_iota")
    ∷ (0xff08, "BackSpace") ∷ (0xff09, "Tab") ∷ (0xff0d, "Return") ∷ (0xff13, "Pause") ∷ (0xff14, "Scroll_Lock")
    ∷ (0xff1b, "Escape") ∷ (0xff20, "Multi_key") ∷ (0xff50, "Home Left Up Right Down Prior Next End Begin")
    ∷ (0xff61, "Print") ∷ (0xff63, "Insert") ∷ (0xff67, "Menu") ∷ (0xff7e, "Mode_switch") ∷ (0xff7f, "Num_Lock") ∷ (0xff8d, "KP_Enter")
    ∷ (0xff95, "KP_Home KP_Left KP_Up KP_Right KP_Down KP_Prior KP_Next KP_End KP_Begin KP_Insert") ∷ (0xff9f, "KP_Delete")
    ∷ (0xffaa, "KP_Multiply KP_Add KP_Separator KP_Subtract KP_Decimal KP_Divide KP_0 KP_1 KP_2") ∷ (0xffb3, "KP_3 KP_4 KP_5 KP_6 KP_7 KP_8 KP_9")
    ∷ (0xffbd, "KP_Equal") ∷ (0xffbe, "F1 F2 F3 F4 F5 F6 F7 F8 F9 F10 F11 F12 F13 F14 F15 F16 F17 F18 F19 F20 F21 F22 F23")
    ∷ (0xffd5, "F24 F25 F26 F27 F28 F29 F30 F31 F32 F33 F34 F35")
    ∷ (0xffe1, "Shift_L Shift_R Control_L Control_R Caps_Lock Shift_Lock Meta_L Meta_R Alt_L Alt_R") ∷ (0xffeb, "Super_L Super_R Hyper_L Hyper_R")
    ∷ (0xffff, "Delete") ∷ (0xffffff, "VoidSymbol") ∷ []

-- each name with its keysym, from the first on
unfoldable pub numbered : ℕ → List (List ℕ) → List Entry
numbered first [] = []
numbered first (name ∷ names) = (name, first) ∷ numbered (first + 1) names

unfoldable pub entries_of_run : ℕ × String → List Entry
entries_of_run run = numbered run.0 (slice_split (λ c. c == 32) (codes run.1))

-- the built-in names with their keysyms
unfoldable pub built_in : List Entry
unfolding built_in_runs numbered entries_of_run
built_in = flat_map entries_of_run built_in_runs
