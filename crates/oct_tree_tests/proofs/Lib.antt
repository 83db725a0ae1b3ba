mod Callers
mod FewVoxels
