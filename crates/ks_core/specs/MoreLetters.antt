-- The letters of Unicode's simple case mapping, beyond those that every table has: made by names/x11.py, as libxkbcommon 1.5
-- takes the mapping over to all keysyms.
use Rattle.std.specs.Prelude.{ℕ, zero, suc, ◌+◌, List, [], ◌∷◌}
use Rattle.std.specs.List.{flat_map}

-- so many keysyms from the first on, each so far after the one before it
unfoldable pub steps_from : ℕ → ℕ → ℕ → List ℕ
steps_from zero step first = []
steps_from (suc count) step first = first ∷ steps_from count step (first + step)

abbrev pub run : ℕ → ℕ → ℕ → List ℕ
run first count step = steps_from count step first

-- in lower case: they have another keysym in upper case, and are their own lower case
unfoldable pub lower_runs : List (List ℕ)
lower_runs =
    run 0xb5 1 1 ∷ run 0xdf 1 1 ∷ run 0xff 1 1 ∷ run 0x1b1 1 1 ∷ run 0x1b4 1 1 ∷ run 0x1be 2 1 ∷ run 0x1e1 2 1 ∷
    run 0x1e4 1 1 ∷ run 0x1e7 3 1 ∷ run 0x1eb 2 2 ∷ run 0x1ee 1 1 ∷ run 0x1f3 5 1 ∷ run 0x1fa 2 2 ∷ run 0x1fd 1 1 ∷
    run 0x2b1 6 1 ∷ run 0x2bb 2 1 ∷ run 0x2e5 26 1 ∷ run 0x3b3 10 1 ∷ run 0x3bf 1 1 ∷ run 0x3e0 31 1 ∷
    run 0x6a1 15 1 ∷ run 0x7b1 5 1 ∷ run 0x7b7 3 1 ∷ run 0x7bb 1 1 ∷ run 0x7e1 18 1 ∷ run 0x7f4 6 1 ∷ run 0x13bd 1 1 ∷
    run 0x1000061 26 1 ∷ run 0x10000b5 1 1 ∷ run 0x10000df 24 1 ∷ run 0x10000f8 8 1 ∷ run 0x1000101 28 2 ∷
    run 0x100013a 8 2 ∷ run 0x100014b 23 2 ∷ run 0x100017a 3 2 ∷ run 0x100017f 1 1 ∷ run 0x1000183 2 2 ∷
    run 0x1000188 1 1 ∷ run 0x100018c 1 1 ∷ run 0x1000192 1 1 ∷ run 0x1000195 1 1 ∷ run 0x1000199 1 1 ∷
    run 0x100019e 1 1 ∷ run 0x10001a1 3 2 ∷ run 0x10001a8 1 1 ∷ run 0x10001ad 1 1 ∷ run 0x10001b0 1 1 ∷
    run 0x10001b4 2 2 ∷ run 0x10001b9 1 1 ∷ run 0x10001bd 2 2 ∷ run 0x10001c6 1 1 ∷ run 0x10001c9 1 1 ∷
    run 0x10001cc 9 2 ∷ run 0x10001dd 10 2 ∷ run 0x10001f3 2 2 ∷ run 0x10001f9 20 2 ∷ run 0x1000223 9 2 ∷
    run 0x1000253 2 1 ∷ run 0x1000256 2 1 ∷ run 0x1000259 2 2 ∷ run 0x1000260 1 1 ∷ run 0x1000263 1 1 ∷
    run 0x1000268 2 1 ∷ run 0x100026f 1 1 ∷ run 0x1000272 1 1 ∷ run 0x1000275 1 1 ∷ run 0x1000280 1 1 ∷
    run 0x1000283 1 1 ∷ run 0x1000288 2 2 ∷ run 0x100028b 1 1 ∷ run 0x1000292 1 1 ∷ run 0x1000345 1 1 ∷
    run 0x10003ac 4 1 ∷ run 0x10003b1 30 1 ∷ run 0x10003d0 2 1 ∷ run 0x10003d5 2 1 ∷ run 0x10003d9 12 2 ∷
    run 0x10003f0 3 1 ∷ run 0x10003f5 1 1 ∷ run 0x10003f8 1 1 ∷ run 0x10003fb 1 1 ∷ run 0x1000450 16 1 ∷
    run 0x1000461 17 2 ∷ run 0x100048b 27 2 ∷ run 0x10004c2 7 2 ∷ run 0x10004d1 19 2 ∷ run 0x10004f9 1 1 ∷
    run 0x1000501 8 2 ∷ run 0x1000561 38 1 ∷ run 0x1001e01 75 2 ∷ run 0x1001e9b 1 1 ∷ run 0x1001ea1 45 2 ∷
    run 0x1001f00 8 1 ∷ run 0x1001f10 6 1 ∷ run 0x1001f20 8 1 ∷ run 0x1001f30 8 1 ∷ run 0x1001f40 6 1 ∷
    run 0x1001f51 4 2 ∷ run 0x1001f60 8 1 ∷ run 0x1001f70 14 1 ∷ run 0x1001f80 8 1 ∷ run 0x1001f90 8 1 ∷
    run 0x1001fa0 8 1 ∷ run 0x1001fb0 2 1 ∷ run 0x1001fb3 1 1 ∷ run 0x1001fbe 1 1 ∷ run 0x1001fc3 1 1 ∷
    run 0x1001fd0 2 1 ∷ run 0x1001fe0 2 1 ∷ run 0x1001fe5 1 1 ∷ run 0x1001ff3 1 1 ∷ run 0x1002170 16 1 ∷
    run 0x10024d0 26 1 ∷ run 0x100ff41 26 1 ∷ run 0x1010428 40 1 ∷ []

-- in upper case: they have another keysym in lower case, and are their own upper case
unfoldable pub upper_runs : List (List ℕ)
upper_runs =
    run 0x1a1 1 1 ∷ run 0x1a4 1 1 ∷ run 0x1ae 2 1 ∷ run 0x1c1 2 1 ∷ run 0x1c4 1 1 ∷ run 0x1c7 3 1 ∷ run 0x1cb 2 2 ∷
    run 0x1ce 1 1 ∷ run 0x1d3 5 1 ∷ run 0x1da 2 2 ∷ run 0x1dd 1 1 ∷ run 0x2a1 6 1 ∷ run 0x2ab 2 1 ∷ run 0x2c5 26 1 ∷
    run 0x3a3 10 1 ∷ run 0x3bd 1 1 ∷ run 0x3c0 31 1 ∷ run 0x6b1 15 1 ∷ run 0x7a1 11 1 ∷ run 0x7c1 25 1 ∷
    run 0x13bc 2 2 ∷ run 0x1000041 26 1 ∷ run 0x10000c0 23 1 ∷ run 0x10000d8 7 1 ∷ run 0x1000100 28 2 ∷
    run 0x1000139 8 2 ∷ run 0x100014a 24 2 ∷ run 0x1000179 3 2 ∷ run 0x1000181 2 1 ∷ run 0x1000184 2 2 ∷
    run 0x1000187 2 2 ∷ run 0x100018a 2 1 ∷ run 0x100018e 4 1 ∷ run 0x1000193 2 1 ∷ run 0x1000196 3 1 ∷
    run 0x100019c 2 1 ∷ run 0x100019f 2 1 ∷ run 0x10001a2 3 2 ∷ run 0x10001a7 2 2 ∷ run 0x10001ac 2 2 ∷
    run 0x10001af 2 2 ∷ run 0x10001b2 2 1 ∷ run 0x10001b5 2 2 ∷ run 0x10001b8 1 1 ∷ run 0x10001bc 1 1 ∷
    run 0x10001c4 1 1 ∷ run 0x10001c7 1 1 ∷ run 0x10001ca 1 1 ∷ run 0x10001cd 8 2 ∷ run 0x10001de 9 2 ∷
    run 0x10001f1 1 1 ∷ run 0x10001f4 2 2 ∷ run 0x10001f7 2 1 ∷ run 0x10001fa 29 2 ∷ run 0x1000386 2 2 ∷
    run 0x1000389 2 1 ∷ run 0x100038c 2 2 ∷ run 0x100038f 2 2 ∷ run 0x1000392 16 1 ∷ run 0x10003a3 9 1 ∷
    run 0x10003d8 12 2 ∷ run 0x10003f4 1 1 ∷ run 0x10003f7 2 2 ∷ run 0x10003fa 1 1 ∷ run 0x1000400 16 1 ∷
    run 0x1000460 17 2 ∷ run 0x100048a 27 2 ∷ run 0x10004c1 7 2 ∷ run 0x10004d0 19 2 ∷ run 0x10004f8 1 1 ∷
    run 0x1000500 8 2 ∷ run 0x1000531 38 1 ∷ run 0x1001e00 75 2 ∷ run 0x1001e9e 46 2 ∷ run 0x1001f08 8 1 ∷
    run 0x1001f18 6 1 ∷ run 0x1001f28 8 1 ∷ run 0x1001f38 8 1 ∷ run 0x1001f48 6 1 ∷ run 0x1001f59 4 2 ∷
    run 0x1001f68 8 1 ∷ run 0x1001f88 8 1 ∷ run 0x1001f98 8 1 ∷ run 0x1001fa8 8 1 ∷ run 0x1001fb8 5 1 ∷
    run 0x1001fc8 5 1 ∷ run 0x1001fd8 4 1 ∷ run 0x1001fe8 5 1 ∷ run 0x1001ff8 5 1 ∷ run 0x1002126 1 1 ∷
    run 0x100212a 2 1 ∷ run 0x1002160 16 1 ∷ run 0x10024b6 26 1 ∷ run 0x100ff21 26 1 ∷ run 0x1010400 40 1 ∷ []

abbrev pub all_of : List (List ℕ) → List ℕ
all_of runs = flat_map (λ r. r) runs

unfoldable pub more_lower : List ℕ
unfolding lower_runs steps_from
more_lower = all_of lower_runs

unfoldable pub more_upper : List ℕ
unfolding upper_runs steps_from
more_upper = all_of upper_runs
