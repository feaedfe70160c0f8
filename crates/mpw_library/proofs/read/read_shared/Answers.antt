-- Answers to the goals of `read_shared` in `src/read.rt`.
use Rattle.std.proofs.Common.{◌<◌, ◌^◌, length, rules, arith}
use Rattle.mpw_library.proofs.DerivedLibrary.{text_of_read}
use Rattle.mpw_library.proofs.FrontLibrary.{first_told}
use Rattle.mpw_library.proofs.read.read_shared.Goals as goal

pub returns-clause-derived : goal.returns-clause-derived
returns-clause-derived c = text_of_read c.args.text.now.value.items _ c.read_whole.ensures.library

pub returns-clause-unexpected : goal.returns-clause-unexpected
returns-clause-unexpected c =
    let h : length c.args.text.now.value.items < 2 ^ 63 = search rules in
    first_told c.args.text.now.value.items _ (omega (arith, h)) c.read_whole.ensures.library
