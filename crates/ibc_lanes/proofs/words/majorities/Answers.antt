use Rattle.std.proofs.Common.{slice_index, bit_and, bit_xor, ap, ap₂, ◌∙◌}
use Rattle.std.specs.Simd.Lanes.{zip2}
use Rattle.ibc_lanes.proofs.Vectors.{zipped, length-zipped}
use Rattle.ibc_lanes.proofs.Majorities.{majority}
use Rattle.ibc_lanes.proofs.words.majorities.Goals as goal

pub returns : goal.returns
returns c j lt =
    let x = c.args.x in
    let y = c.args.y in
    let z = c.args.z in
    let xy = length-zipped bit_xor x y c.fits-x.0 c.fits-y.0 in
    let yz = length-zipped bit_xor y z c.fits-y.0 c.fits-z.0 in
    let first = zipped bit_xor x y c.fits-x.0 c.fits-y.0 j lt in
    let second = zipped bit_xor y z c.fits-y.0 c.fits-z.0 j lt in
    zipped bit_xor y (zip2 bit_and (zip2 bit_xor x y) (zip2 bit_xor y z)) c.fits-y.0 (length-zipped bit_and (zip2 bit_xor x y) (zip2 bit_xor y z) xy yz) j lt
    ∙ ap (bit_xor (slice_index y j)) (zipped bit_and (zip2 bit_xor x y) (zip2 bit_xor y z) xy yz j lt ∙ ap₂ bit_and first second)
    ∙ majority (slice_index x j) (slice_index y j) (slice_index z j)
