use Rattle.std.proofs.Common.{arith, length-take}
use Rattle.cfb_sectors.proofs.ReadWords.{sector_words_read, sector_len_fits}
use Rattle.cfb_sectors.proofs.sector.Sectors.read_words.Goals as goal

pub returns-clause-ok : goal.returns-clause-ok
returns-clause-ok g c told =
    sector_words_read c.args.self.now.version c.args.self.now.bytes c.args.sector _ _ _ _ c.requires
    (omega (arith, c.sector_len-len.ensures, length-take c.sector_len-len.result c.zeros-buffer.result, sector_len_fits c.args.self.now.version))
    c.get_words.ensures (c.in_ok-read_exact.ensures.ok told)

pub slice_bounds-buffer-end : goal.slice_bounds-buffer-end
slice_bounds-buffer-end g c = omega (arith, c.sector_len-len.ensures, sector_len_fits c.args.self.now.version)

pub slice_bounds-bytes-end : goal.slice_bounds-bytes-end
slice_bounds-bytes-end g c =
    omega (arith, c.sector_len-len.ensures, sector_len_fits c.args.self.now.version, length-take c.sector_len-len.result c.zeros-buffer.result)
